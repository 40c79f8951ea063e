use Rattle.unit_streams.proofs.Telling.{pieces_add}
use Rattle.unit_streams.proofs.laws.pieces_add.Goals as goal

pub returns : goal.returns
returns c = λ g t ends closes. pieces_add g t ends closes
