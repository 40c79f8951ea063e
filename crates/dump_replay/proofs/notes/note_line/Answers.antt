use Rattle.dump_replay.proofs.notes.note_line.Goals as goal

pub returns : goal.returns
returns g c = rw (c.from.ensures, c.line_kind_name.ensures) at c.put_note.ensures
