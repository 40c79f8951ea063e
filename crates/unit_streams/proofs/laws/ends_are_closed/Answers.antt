use Rattle.unit_streams.proofs.Ends.{ends_are_closed}
use Rattle.unit_streams.proofs.laws.ends_are_closed.Goals as goal

pub returns : goal.returns
returns c = λ g readable quiet. ends_are_closed g readable quiet
