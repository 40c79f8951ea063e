use Rattle.{std.proofs.Common.subst, nbfx_values.specs.QuotasOf.limits_of}
use Rattle.action_dispatch.specs.{declared.planning.Plan.Plan, Answers.Serves, Planning.IsFor}
use Rattle.action_dispatch.specs.Planning.{Leads}
use Rattle.action_dispatch.proofs.MeasuredFacts.{measured_asked, refused_fault, refused_texts}
use Rattle.action_dispatch.proofs.dispatch.answer_owned.Goals as goal

pub returns-in-Answered-clause-measured : goal.returns-in-Answered-clause-measured
returns-in-Answered-clause-measured g c =
    let serves : Serves = g.V.Service.served c.args.service.now in
    subst (λ (plan : Plan). Leads (limits_of c.args.quotas.now) c.args.doc plan serves)
    c.in-Answered.is (c.in_ok-measured.ensures.leads serves)

pub returns-in-Refused-clause-measured : goal.returns-in-Refused-clause-measured
returns-in-Refused-clause-measured g c =
    let serves : Serves = g.V.Service.served c.args.service.now in
    refused_fault serves (limits_of c.args.quotas.now) c.args.doc c.in-Refused.fault
    c.in-Refused.related c.in-Refused.version c.refused_by.result
    (subst (λ (plan : Plan). Leads (limits_of c.args.quotas.now) c.args.doc plan serves)
    c.in-Refused.is (c.in_ok-measured.ensures.leads serves))
    c.refused_by.ensures

pub returns-in-Refused-clause-texts : goal.returns-in-Refused-clause-texts
returns-in-Refused-clause-texts g c =
    refused_texts (limits_of c.args.quotas.now) c.args.doc c.in-Refused.fault
    c.in-Refused.related c.in-Refused.version c.refused_by.result
    (subst (λ (plan : Plan). IsFor c.args.doc plan) c.in-Refused.is
    c.in_ok-measured.ensures.is_for)
    c.refused_by.ensures

pub returns-in-Asks-clause-measured : goal.returns-in-Asks-clause-measured
returns-in-Asks-clause-measured g c =
    let serves : Serves = g.V.Service.served c.args.service.now in
    let leads =
    subst (λ (plan : Plan). Leads (limits_of c.args.quotas.now) c.args.doc plan serves)
    c.in-Asks.is (c.in_ok-measured.ensures.leads serves) in
    measured_asked serves (limits_of c.args.quotas.now) c.args.doc c.in-Asks.version
    c.in-Asks.action
    c.in-Asks.relates c.in-Asks.body_at c.answer_asked.result leads
    (rw c.as_str.ensures.same at c.answer_asked.ensures.measured)
