use Rattle.std.proofs.Common.{◌≡◌, true, sym, ◌∙◌}
use Rattle.{nbfx_values.specs.QuotasOf.limits_of, action_dispatch.proofs.TextSizes.replies_too_much}
use Rattle.action_dispatch.specs.{Actions.text_for, Services.is_text_above}
use Rattle.action_dispatch.proofs.table.TableServiceService.is_too_large.Goals as goal

pub returns-clause-unfit : goal.returns-clause-unfit
returns-clause-unfit c large =
    let above :
    is_text_above c.args.quotas.now.content (text_for c.args.self.now c.args.action.now) ≡ true =
    rw (← c.self.view_is) (sym c.has_text_above.ensures ∙ large) in
    replies_too_much (limits_of c.args.quotas.now) c.args.self.now c.args.action.now above
