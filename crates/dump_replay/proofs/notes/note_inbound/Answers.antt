use Rattle.dump_replay.proofs.Noting.{offence_line_some}
use Rattle.dump_replay.proofs.notes.note_inbound.Goals as goal

pub returns-in-Offended-clause-none : goal.returns-in-Offended-clause-none
returns-in-Offended-clause-none g c = λ none. absurd (offence_line_some c.in-Offended.offence
    (rw c.in-Offended.is at none))
