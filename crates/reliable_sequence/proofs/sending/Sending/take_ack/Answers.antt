use Rattle.reliable_sequence.proofs.sending.Sending.take_ack.Goals as goal
use Rattle.reliable_sequence.proofs.SentContents.{contents-taken}

pub invariant_of-self : goal.invariant_of-self
invariant_of-self c =
    contents-taken c.self.inside.outgoing c.acknowledge.new.self c.as_slice.result.now
    c.acknowledge.result c.self.invariant c.acknowledge.ensures.acknowledged
    c.acknowledge.ensures.unchanged
