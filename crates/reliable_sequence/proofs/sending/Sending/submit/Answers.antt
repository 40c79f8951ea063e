use Rattle.reliable_sequence.proofs.sending.Sending.submit.Goals as goal
use Rattle.reliable_sequence.proofs.SentContents.{contents-submitted}

pub invariant_of-self : goal.invariant_of-self
invariant_of-self c =
    contents-submitted c.self.inside.outgoing c.submit.new.self c.args.body c.args.last
    c.submit.result c.self.invariant c.requires.content c.submit.ensures.submitted
    c.submit.ensures.unchanged
