use Rattle.dump_replay.proofs.notes.note_measure.Goals as goal

pub returns : goal.returns
returns g c = rw (c.from.ensures, c.from-2.ensures) at c.put_note.ensures
