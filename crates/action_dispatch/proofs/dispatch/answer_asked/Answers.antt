use Rattle.nbfx_values.specs.QuotasOf.{limits_of}
use Rattle.soap_envelope.specs.{Body.body_items, Parts.root_scope}
use Rattle.action_dispatch.proofs.MeasuredFacts.{answered_unread, measured_returned}
use Rattle.action_dispatch.proofs.MeasuredFacts.{measured_unasked}
use Rattle.action_dispatch.proofs.dispatch.answer_asked.Goals as goal

pub returns-then-is_too_large-clause-measured : goal.returns-then-is_too_large-clause-measured
returns-then-is_too_large-clause-measured g c =
    let body = body_items c.args.version c.args.doc (root_scope c.args.doc) c.args.body_at in
    measured_unasked (g.V.Service.served c.args.service.now) (limits_of c.args.quotas.now)
    c.args.version c.args.action.now c.args.relates body
    (c.is_too_large.ensures.unfit c.if-is_too_large.true)

pub returns-in_ok-answer-in-Unused-clause-measured :
    goal.returns-in_ok-answer-in-Unused-clause-measured
returns-in_ok-answer-in-Unused-clause-measured g c =
    let body = body_items c.args.version c.args.doc (root_scope c.args.doc) c.args.body_at in
    answered_unread (g.V.Service.served c.args.service.now) c.args.version c.args.action.now
    c.args.relates
    body
    c.in_ok-answer-in-Unused.answer (c.body_use.ensures.unused c.in-Unused.is)
    c.in_ok-answer-in-Unused.ensures.answered

pub returns-in-Returned-clause-measured : goal.returns-in-Returned-clause-measured
returns-in-Returned-clause-measured g c =
    let body = body_items c.args.version c.args.doc (root_scope c.args.doc) c.args.body_at in
    measured_returned (g.V.Service.served c.args.service.now) (limits_of c.args.quotas.now)
    c.args.version c.args.action.now c.args.relates body c.answer_returned.result
    (c.body_use.ensures.returned c.in-Returned.is) c.answer_returned.ensures.measured
