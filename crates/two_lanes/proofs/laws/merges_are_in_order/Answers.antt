use Rattle.two_lanes.proofs.Merging.{in_order}
use Rattle.two_lanes.proofs.laws.merges_are_in_order.Goals as goal

pub returns : goal.returns
returns c = in_order
