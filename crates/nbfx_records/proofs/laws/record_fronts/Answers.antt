use Rattle.nbfx_records.proofs.ShapeFronts.{node_fronts, node_of_nothing}
use Rattle.nbfx_records.proofs.laws.record_fronts.Goals as goal

pub returns : goal.returns
returns c = record { reads = node_fronts; nothing = node_of_nothing }
