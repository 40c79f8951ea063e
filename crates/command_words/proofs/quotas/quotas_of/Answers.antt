use Rattle.std.proofs.Common.{◌≡◌, sym, subst}
use Rattle.nbfx_values.specs.{Limits.Limits, Limits.usual_limits, QuotasOf.limits_of}
use Rattle.command_words.specs.Requests.{AreLimits, forward_values, QuotaValues, reply_values}
use Rattle.command_words.specs.WordAnswers.{found_values}
use Rattle.command_words.proofs.AskingFacts.{limits-one}
use Rattle.command_words.proofs.quotas.quotas_of.Goals as goal

pub returns-in_err-back-clause-none : goal.returns-in_err-back-clause-none
returns-in_err-back-clause-none c =
    let value = found_values c.args.matches.now in
    let forward = c.in_ok-forward.forward in
    let read = limits_of forward in
    rw c.from_residual-in_err-back.ensures
    (λ two are good.
    let by_values = subst (λ (v : QuotaValues). AreLimits v (limits_of c.usual.result) read)
    c.forward_values.ensures c.in_ok-forward.ensures.set in
    let set = subst (λ (l : Limits). AreLimits (forward_values value) l read) c.usual.ensures
    by_values in
    let same : two.forward ≡ read = limits-one (forward_values value) usual_limits two.forward read
    are.forward good.forward set forward.good in
    let back = subst (λ (l : Limits). AreLimits (reply_values value) l two.back) same are.back in
    c.in_err-back.ensures.none two.back
    (subst (λ (v : QuotaValues). AreLimits v read two.back) (sym c.reply_values.ensures) back)
    good.back)
