use Rattle.std.proofs.Common.{◌∙◌, ap, sym, subst}
use Rattle.reliable_sequence.specs.declared.events.Event.{TheVariants.Submit}
use Rattle.reliable_sequence.specs.{Exchange.world_of, Rehearsal.Kept, Rehearsal.kept_after, Rehearsal.MayHappen}
use Rattle.reliable_sequence.proofs.ExchangeFacts.{kept-next, sound-next, submitted-next}
use Rattle.reliable_sequence.proofs.exchange.Exchange.submit.Goals as goal

pub invariant_of-result : goal.invariant_of-result
invariant_of-result c =
    let e = c.self.inside in
    let same = submitted-next e.outgoing e.receipts.received e.bodies e.marks e.receipts.sent
    c.self.invariant c.args.body c.args.last c.submit.new.outgoing c.submit.new.bodies
    c.in_ok-submit.ensures in
    sound-next e.identifier (world_of e.outgoing e.receipts.received e.bodies e.marks
    e.receipts.sent) c.self.invariant
    (Submit c.args.body c.args.last)
    (subst (λ (k : Kept). MayHappen k (Submit c.args.body c.args.last)) (sym c.self.view_is)
    c.requires) _ same

pub returns : goal.returns
returns c =
    let e = c.self.inside in
    let same = submitted-next e.outgoing e.receipts.received e.bodies e.marks e.receipts.sent
    c.self.invariant c.args.body c.args.last c.submit.new.outgoing c.submit.new.bodies
    c.in_ok-submit.ensures in
    kept-next e.identifier (world_of e.outgoing e.receipts.received e.bodies e.marks
    e.receipts.sent) c.self.invariant
    (Submit c.args.body c.args.last)
    (subst (λ (k : Kept). MayHappen k (Submit c.args.body c.args.last)) (sym c.self.view_is)
    c.requires) _ same
    ∙ ap (λ (k : Kept). kept_after k (Submit c.args.body c.args.last)) c.self.view_is
