use Rattle.line_notation.proofs.FormFacts.{line-read, read-line}
use Rattle.line_notation.proofs.laws.one_form.Goals as goal

pub returns : goal.returns
returns c form line = (line-read form line, read-line line form)
