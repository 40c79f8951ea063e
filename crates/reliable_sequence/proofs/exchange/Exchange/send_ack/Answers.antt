use Rattle.reliable_sequence.specs.declared.events.Event.{TheVariants.SendAck}
use Rattle.reliable_sequence.specs.{Exchange.world_of}
use Rattle.reliable_sequence.proofs.ExchangeFacts.{ranged-next, sound-next}
use Rattle.reliable_sequence.proofs.exchange.Exchange.send_ack.Goals as goal

pub invariant_of-result : goal.invariant_of-result
invariant_of-result c =
    let e = c.self.inside in
    let same = ranged-next e.outgoing e.receipts.received e.bodies e.marks e.receipts.sent
    c.acknowledge.new.self.received c.acknowledge.new.self.sent c.acknowledge.ensures.received
    c.in_ok-acknowledge.ensures.sent in
    sound-next e.identifier (world_of e.outgoing e.receipts.received e.bodies e.marks
    e.receipts.sent) c.self.invariant
    SendAck tt _ same
