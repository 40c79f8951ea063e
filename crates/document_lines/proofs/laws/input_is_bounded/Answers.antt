use Rattle.document_lines.proofs.Lines.{begins, bounded}
use Rattle.document_lines.proofs.laws.input_is_bounded.Goals as goal

pub returns-clause-begins : goal.returns-clause-begins
returns-clause-begins c = begins

pub returns-clause-bounded : goal.returns-clause-bounded
returns-clause-bounded c = bounded
