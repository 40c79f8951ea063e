use Rattle.soap_envelope.proofs.LawFacts.{relates_are_kept, replies_are_viewed}
use Rattle.soap_envelope.proofs.laws.replies.Goals as goal

pub returns-clause-viewed : goal.returns-clause-viewed
returns-clause-viewed c = replies_are_viewed

pub returns-clause-relates : goal.returns-clause-relates
returns-clause-relates c = relates_are_kept
