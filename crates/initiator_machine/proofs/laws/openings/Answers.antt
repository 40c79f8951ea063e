use Rattle.initiator_machine.proofs.Openings.{openings_are_preambles}
use Rattle.initiator_machine.proofs.laws.openings.Goals as goal

pub returns : goal.returns
returns c = openings_are_preambles
