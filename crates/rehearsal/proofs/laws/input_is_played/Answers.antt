use Rattle.rehearsal.proofs.Playing.{accepted_is_in_form, is_played, pending_is_played}
use Rattle.rehearsal.proofs.laws.input_is_played.Goals as goal

pub returns-clause-played : goal.returns-clause-played
returns-clause-played c = is_played

pub returns-clause-accepted : goal.returns-clause-accepted
returns-clause-accepted c = accepted_is_in_form

pub returns-clause-pending : goal.returns-clause-pending
returns-clause-pending c = pending_is_played
