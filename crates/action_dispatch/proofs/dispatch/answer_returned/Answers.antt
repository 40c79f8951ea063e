use Rattle.std.proofs.Common.{List, Option, subst, ap}
use Rattle.nbfx_values.specs.{declared.content.Item.Item, QuotasOf.limits_of}
use Rattle.soap_envelope.specs.{Body.body_items, Fitting.IsTaken, Making.reply_items}
use Rattle.soap_envelope.specs.{Parts.root_scope}
use Rattle.action_dispatch.specs.declared.answers.Answer.TheVariants.{Reply}
use Rattle.action_dispatch.proofs.MeasuredFacts.{too_large}
use Rattle.action_dispatch.proofs.dispatch.answer_returned.Goals as goal

pub returns-in-Some-clause-measured : goal.returns-in-Some-clause-measured
returns-in-Some-clause-measured c =
    let body = body_items c.args.version c.args.doc (root_scope c.args.doc) c.args.body_at in
    let reply = reply_items c.args.version c.args.action.now c.args.relates body in
    ap (λ (made : List Item). Reply made c.args.relates c.args.version)
    (subst (λ (o : Option (List Item)). IsTaken (limits_of c.args.quotas.now) body reply o)
    c.in-Some.is c.in_ok-doc.ensures)

pub returns-in-None-clause-measured : goal.returns-in-None-clause-measured
returns-in-None-clause-measured c =
    let body = body_items c.args.version c.args.doc (root_scope c.args.doc) c.args.body_at in
    let reply = reply_items c.args.version c.args.action.now c.args.relates body in
    too_large (limits_of c.args.quotas.now) c.args.version c.args.action.now c.args.relates body
    (subst (λ (o : Option (List Item)). IsTaken (limits_of c.args.quotas.now) body reply o)
    c.in-None.is c.in_ok-doc.ensures)
