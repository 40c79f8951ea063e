use Rattle.dump_replay.proofs.Noting.{note_put}
use Rattle.dump_replay.proofs.notes.put_offence_note.Goals as goal

pub returns : goal.returns
returns g c =
    note_put c.flush.result c.in_ok-put_offence.ensures c.flush.ensures.puts c.flush.ensures.emptied
