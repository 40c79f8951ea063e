use Rattle.reliable_sequence.specs.declared.events.Event.{TheVariants.Deliver}
use Rattle.reliable_sequence.specs.{Exchange.world_of}
use Rattle.reliable_sequence.proofs.ExchangeFacts.{delivered-next, sound-next}
use Rattle.reliable_sequence.proofs.exchange.Exchange.deliver.Goals as goal

pub invariant_of-next : goal.invariant_of-next
invariant_of-next c =
    let e = c.self.inside in
    let same = delivered-next e.outgoing e.receipts.received e.bodies e.marks e.receipts.sent
    c.deliver-body.new.self.received c.deliver-body.new.self.sent c.deliver-body.ensures.sent
    c.deliver-body.ensures.received in
    sound-next e.identifier (world_of e.outgoing e.receipts.received e.bodies e.marks
    e.receipts.sent) c.self.invariant
    Deliver tt _ same
