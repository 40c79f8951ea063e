use Rattle.document_lines.proofs.Built.{built}
use Rattle.document_lines.proofs.laws.accepted_is_built.Goals as goal

pub returns : goal.returns
returns c = built
