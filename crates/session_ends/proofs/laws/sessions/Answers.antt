use Rattle.session_ends.proofs.Sent.{sent_are_sessions}
use Rattle.session_ends.proofs.laws.sessions.Goals as goal

pub returns : goal.returns
returns c = sent_are_sessions
