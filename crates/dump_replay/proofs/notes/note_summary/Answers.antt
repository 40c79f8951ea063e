use Rattle.dump_replay.proofs.Noting.{offence_line_some}
use Rattle.dump_replay.proofs.notes.note_summary.Goals as goal

pub returns-in-TooLong-clause-none : goal.returns-in-TooLong-clause-none
returns-in-TooLong-clause-none g c = λ none. absurd (offence_line_some c.in-TooLong.offence
    (rw c.in-TooLong.is at none))
