use Rattle.nbfx_decoder.proofs.PayloadLaws.{spells_one_document}
use Rattle.nbfx_decoder.proofs.laws.one_document.Goals as goal

pub returns : goal.returns
returns c = spells_one_document
