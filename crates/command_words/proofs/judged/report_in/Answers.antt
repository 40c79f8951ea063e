use Rattle.std.proofs.Common.{◌≡◌, sym, ap, ◌∙◌, subst}
use Rattle.nbfx_values.specs.Session.{encoding_kind}
use Rattle.command_words.specs.declared.option_name.OptionName.TheVariants.{Encoding, Replies}
use Rattle.command_words.specs.{Requests.IsOrigin, Values.IsEncoding, WordAnswers.found_values}
use Rattle.command_words.proofs.ValueFacts.{encoding-one}
use Rattle.command_words.proofs.judged.report_in.Goals as goal

pub returns-in_err-origin-clause-none : goal.returns-in_err-origin-clause-none
returns-in_err-origin-clause-none c =
    rw c.from_residual-in_err-origin.ensures
    (λ task asks.
    let encoding = c.in_ok-encoding.encoding in
    let named =
    subst (λ v. IsEncoding v encoding) c.given_for.ensures c.in_ok-encoding.ensures.named in
    let value = found_values c.args.matches.now Encoding in
    let same : asks.encoding ≡ encoding =
    encoding-one value asks.encoding encoding asks.encoded named in
    let kind = ap encoding_kind same ∙ sym c.kind.ensures in
    c.in_err-origin.ensures.none asks.origin
    (subst (λ v. IsOrigin v c.kind.result asks.origin) (sym c.given_for-replies.ensures)
    (subst (λ k. IsOrigin (found_values c.args.matches.now Replies) k asks.origin) kind
    asks.replies)))
