use Rattle.document_lines.proofs.Lines.{closes}
use Rattle.document_lines.proofs.laws.input_is_closed.Goals as goal

pub returns : goal.returns
returns c = closes
