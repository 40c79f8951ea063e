use Rattle.std.proofs.Common.{◌∙◌, ap}
use Rattle.reliable_sequence.specs.declared.events.Event.{TheVariants.Send}
use Rattle.reliable_sequence.specs.{Exchange.world_of, Rehearsal.Kept, Rehearsal.kept_after}
use Rattle.reliable_sequence.proofs.ExchangeFacts.{kept-next, sent-next, sound-next}
use Rattle.reliable_sequence.proofs.exchange.Exchange.send.Goals as goal

pub invariant_of-result : goal.invariant_of-result
invariant_of-result c =
    let e = c.self.inside in
    let same = sent-next e.outgoing e.receipts.received e.bodies e.marks e.receipts.sent
    c.self.invariant c.args.number c.send.new.marks c.in_ok-send.ensures in
    sound-next e.identifier (world_of e.outgoing e.receipts.received e.bodies e.marks
    e.receipts.sent) c.self.invariant
    (Send c.args.number) tt _ same

pub returns : goal.returns
returns c =
    let e = c.self.inside in
    let same = sent-next e.outgoing e.receipts.received e.bodies e.marks e.receipts.sent
    c.self.invariant c.args.number c.send.new.marks c.in_ok-send.ensures in
    kept-next e.identifier (world_of e.outgoing e.receipts.received e.bodies e.marks
    e.receipts.sent) c.self.invariant
    (Send c.args.number) tt _ same
    ∙ ap (λ (k : Kept). kept_after k (Send c.args.number)) c.self.view_is
