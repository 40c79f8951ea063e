use Rattle.std.proofs.Common.{◌∙◌, ap}
use Rattle.reliable_sequence.specs.declared.events.Event.{TheVariants.Data as Hand}
use Rattle.reliable_sequence.specs.{Exchange.world_of, Rehearsal.Kept, Rehearsal.kept_after}
use Rattle.reliable_sequence.proofs.ExchangeFacts.{handed-next, kept-next, sound-next}
use Rattle.reliable_sequence.proofs.exchange.Exchange.hand_over.Goals as goal

pub invariant_of-result : goal.invariant_of-result
invariant_of-result c =
    let e = c.self.inside in
    let same = handed-next e.outgoing e.receipts.received e.bodies e.marks e.receipts.sent
    c.args.at c.hand_over.new.receipts.received c.hand_over.new.receipts.sent
    c.hand_over.ensures.sent c.in_ok-hand_over.ensures.received in
    sound-next e.identifier (world_of e.outgoing e.receipts.received e.bodies e.marks
    e.receipts.sent) c.self.invariant
    (Hand c.args.at) tt _ same

pub returns : goal.returns
returns c =
    let e = c.self.inside in
    let same = handed-next e.outgoing e.receipts.received e.bodies e.marks e.receipts.sent
    c.args.at c.hand_over.new.receipts.received c.hand_over.new.receipts.sent
    c.hand_over.ensures.sent c.in_ok-hand_over.ensures.received in
    kept-next e.identifier (world_of e.outgoing e.receipts.received e.bodies e.marks
    e.receipts.sent) c.self.invariant
    (Hand c.args.at) tt _ same
    ∙ ap (λ (k : Kept). kept_after k (Hand c.args.at)) c.self.view_is
