use Rattle.unit_streams.proofs.Refusals.{refusals_are_three}
use Rattle.unit_streams.proofs.laws.refusals_are_three.Goals as goal

pub returns : goal.returns
returns c = λ g readable. refusals_are_three g readable
