use Rattle.nbfx_values.proofs.Walks.{no_more-behind}
use Rattle.nbfx_values.proofs.laws.no_document_goes_on.Goals as goal

pub returns : goal.returns
returns c = no_more-behind
