use Rattle.std.proofs.Common.{◌≡◌, ◌<◌, length, slice_index_or, sym, ap, ◌∙◌, subst, inl, inr}
use Rattle.std.proofs.Common.{true≢false, arith}
use Rattle.std.proofs.lemmas.{Bool.cases_lt, List.get_or_default}
use Rattle.command_words.specs.declared.option_name.OptionName.TheVariants.{Static}
use Rattle.command_words.specs.WordAnswers.{found_values}
use Rattle.command_words.proofs.parsed.have_values.Goals as goal

pub loop-option-init : goal.loop-option-init
loop-option-init c k d lt = absurd (omega arith)

pub loop-option-preserved : goal.loop-option-preserved
loop-option-preserved c k d lt e =
    let items = c.options_of-option-items.result.now in
    let at = c.loop-option.option-index in
    elim (cases_lt k at) [
      | inl before ↦ c.loop-option.invariant k d before e
      | inr after ↦
          let here : k ≡ at = omega arith in
          let same = ap (λ n. slice_index_or items n d) here
          ∙ get_or_default items at d Static c.loop-option-test.true in
          let empty = c.given_for.ensures ∙ ap (found_values c.args.matches.now) (sym same) ∙ e in
          true≢false (sym (c.is_empty.ensures.1 empty) ∙ c.if-is_empty.false)
    ]

pub returns-clause-full : goal.returns-clause-full
returns-clause-full c k d lt e =
    let is = c.options_of-option-items.ensures in
    let before : k < c.loop-option.option-index =
    omega (arith, c.loop-option-test.false, subst (λ xs. k < length xs) (sym is) lt) in
    c.loop-option.invariant k d before
    (ap (λ xs. found_values c.args.matches.now (slice_index_or xs k d)) is ∙ e)
