use Rattle.nbfx_values.proofs.Walks.{document-position, position_of-document}
use Rattle.nbfx_values.proofs.laws.a_document_leads_to_its_end.Goals as goal

pub returns : goal.returns
returns c items = (document-position items, position_of-document items)
