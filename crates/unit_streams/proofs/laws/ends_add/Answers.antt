use Rattle.unit_streams.proofs.Telling.{ends_add}
use Rattle.unit_streams.proofs.laws.ends_add.Goals as goal

pub returns : goal.returns
returns c = λ g t. ends_add g t
