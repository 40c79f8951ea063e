use Rattle.{nbfx_values.specs.QuotasOf.limits_of, action_dispatch.proofs.AnswerFacts.plans_by}
use Rattle.action_dispatch.proofs.planning.plan_for.Goals as goal

pub returns-in-Ok : goal.returns-in-Ok
returns-in-Ok c =
    plans_by (limits_of c.args.quotas.now) c.args.doc.now c.in-Ok.envelope c.plan_viewed.result
    c.in-Ok.ensures.viewed c.in-Ok.ensures.body c.plan_viewed.ensures.planned
    c.plan_viewed.ensures.texts
