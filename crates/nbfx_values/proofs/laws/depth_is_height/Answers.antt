use Rattle.nbfx_values.proofs.Heights.{depth-walk}
use Rattle.nbfx_values.proofs.laws.depth_is_height.Goals as goal

pub returns : goal.returns
returns c = depth-walk
