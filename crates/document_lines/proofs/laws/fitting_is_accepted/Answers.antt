use Rattle.document_lines.proofs.Fitting.{fitting_is_accepted}
use Rattle.document_lines.proofs.laws.fitting_is_accepted.Goals as goal

pub returns : goal.returns
returns c = fitting_is_accepted c.documents.ensures
