use Rattle.std.proofs.Common.{◌≡◌, ◌^◌, ◌<◌, sym, ap, ◌∙◌, subst, arith}
use Rattle.nbfx_values.specs.{Limits.limits, QuotasOf.limits_of}
use Rattle.command_words.specs.{Requests.content_beside, Values.IsNumber, WordAnswers.values_of}
use Rattle.command_words.proofs.NumberFacts.{IsGood-content, limits-same, none-good, payload-same}
use Rattle.command_words.proofs.quotas.set_by.Goals as goal

pub returns-in_err-content-clause-none : goal.returns-in_err-content-clause-none
returns-in_err-content-clause-none c =
    let given = values_of c.args.given in
    let usual = limits_of c.args.usual in
    let payload = c.in_ok-payload.payload in
    let payload_small : payload < 2 ^ 64 = omega arith in
    let payload_read = rw c.from.ensures at c.in_ok-payload.ensures.written in
    rw c.from_residual-in_err-content.ensures
    (λ l are good.
    let same = payload-same given usual l are good payload payload_small payload_read in
    c.in_err-content.ensures.none l.content (IsGood-content l good)
    (subst (λ n. IsNumber given.content n l.content)
    (sym (c.content_beside-usual_content.ensures
    ∙ ap (content_beside given.payload usual.content) same)) are.content))

pub returns-clause-none : goal.returns-clause-none
returns-clause-none c =
    let given = values_of c.args.given in
    let usual = limits_of c.args.usual in
    let payload = c.in_ok-payload.payload in
    let payload_small : payload < 2 ^ 64 = omega arith in
    let depth_small : c.in_ok-depth.depth < 2 ^ 64 = omega arith in
    let dictionary_small : c.in_ok-dictionary.dictionary < 2 ^ 64 = omega arith in
    let content_small : c.in_ok-content.content < 2 ^ 64 = omega arith in
    let session_small : c.in_ok-session.session < 2 ^ 64 = omega arith in
    let payload_read = rw c.from.ensures at c.in_ok-payload.ensures.written in
    let depth_read = rw c.from-2.ensures at c.in_ok-depth.ensures.written in
    let dictionary_read = rw c.from-3.ensures at c.in_ok-dictionary.ensures.written in
    let content_read =
    rw c.content_beside-usual_content.ensures at c.in_ok-content.ensures.written in
    none-good c.of.result given usual
    (limits payload c.in_ok-depth.depth c.in_ok-dictionary.dictionary c.in_ok-content.content
    c.args.usual.via c.in_ok-session.session) c.of.ensures.good.1
    (λ l are good. limits-same given usual l are good payload c.in_ok-depth.depth
    c.in_ok-dictionary.dictionary c.in_ok-content.content c.in_ok-session.session payload_small
    depth_small dictionary_small content_small session_small payload_read depth_read
    dictionary_read content_read c.in_ok-session.ensures.written)
