use Rattle.two_lanes.proofs.Merging.{grow_by_one}
use Rattle.two_lanes.proofs.laws.merges_grow_by_one.Goals as goal

pub returns : goal.returns
returns c = grow_by_one
