use Rattle.nbfx_encoder.proofs.LawFacts.{sends_one_more}
use Rattle.nbfx_encoder.proofs.laws.envelopes.Goals as goal

pub returns : goal.returns
returns c = sends_one_more
