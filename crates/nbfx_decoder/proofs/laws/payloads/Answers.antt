use Rattle.nbfx_decoder.proofs.PayloadLaws.{payloads_are_accepted}
use Rattle.nbfx_decoder.proofs.laws.payloads.Goals as goal

pub returns : goal.returns
returns c = payloads_are_accepted
