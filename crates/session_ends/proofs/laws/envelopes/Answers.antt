use Rattle.session_ends.proofs.Sent.{sent_are_carried}
use Rattle.session_ends.proofs.laws.envelopes.Goals as goal

pub returns : goal.returns
returns c = sent_are_carried
