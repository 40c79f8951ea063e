use Rattle.std.proofs.Common.{ℕ, ◌<◌, ◌≤◌, List, [], ◌∷◌, ◌++◌, sym, refl, ap, ◌∙◌, subst}
use Rattle.std.proofs.lemmas.Result.{err_from_is_err_and}
use Rattle.nbfx_values.specs.declared.content.Item.{Item, TheVariants.Close, TheVariants.Text}
use Rattle.nbfx_values.specs.{Measures.capped, Measures.content_of, Positions.position_of}
use Rattle.nbfx_values.proofs.LastTexts.{last_text_leads, last_text_measured}
use Rattle.nbfx_values.proofs.Positions.{open-position}
use Rattle.nbfx_values.proofs.builder.DocBuilder.push_last_text.Goals as goal

pub returns-in_default-clause-out_of_place : goal.returns-in_default-clause-out_of_place
returns-in_default-clause-out_of_place c =
    let leads = last_text_leads c.args.self.now c.args.value c.position-before.result
    c.position-before.ensures.ends c.requires ∙ sym c.moved.ensures in
    (λ _. leads ∙ c.in_default.is, λ _. refl)

pub returns-in_err-push_two-clause-out_of_place : goal.returns-in_err-push_two-clause-out_of_place
returns-in_err-push_two-clause-out_of_place c =
    let (fault, is, memory) = err_from_is_err_and c.from_residual.result c.from_residual.ensures.1
    in
    let leads = last_text_leads c.args.self.now c.args.value c.position-before.result
    c.position-before.ensures.ends c.requires ∙ sym c.moved.ensures ∙ c.in-Some.is in
    rw (is, memory) (λ e. absurd cc, λ none. absurd cc)

pub invariant_of-self-2 : goal.invariant_of-self-2
invariant_of-self-2 c =
    let items = c.self.inside.items in
    let ends = ap position_of c.self.view_is ∙ c.position-before.ensures.ends in
    let leads = last_text_leads items c.args.value c.position-before.result ends c.requires ∙ sym
    c.moved.ensures ∙ c.in-Some.is in
    let counted = open-position items c.position-before.result ends ∙ sym c.open_count-open.ensures
    in
    let measured = last_text_measured items c.args.value c.open_count-open.result _ _ _ counted
    c.self.invariant.measured c.with_text.ensures c.with-measures.ensures in
    rw c.in_ok-push_two.ensures.pushed (record { leads = leads; measured = measured })

pub returns-clause-out_of_place : goal.returns-clause-out_of_place
returns-clause-out_of_place c =
    let leads = last_text_leads c.args.self.now c.args.value c.position-before.result
    c.position-before.ensures.ends c.requires ∙ sym c.moved.ensures ∙ c.in-Some.is in
    (λ e. absurd cc, λ none. absurd cc)

pub returns-then-measures-most-clause-out_of_place :
    goal.returns-then-measures-most-clause-out_of_place
returns-then-measures-most-clause-out_of_place c =
    let leads = last_text_leads c.args.self.now c.args.value c.position-before.result
    c.position-before.ensures.ends c.requires ∙ sym c.moved.ensures ∙ c.in-Some.is in
    (λ e. absurd cc, λ none. absurd cc)

pub returns-then-measures-most-clause-too_much : goal.returns-then-measures-most-clause-too_much
returns-then-measures-most-clause-too_much c =
    let items = c.self.inside.items in
    let text = Text c.args.value in
    let counted = open-position items c.position-before.result
    (ap position_of c.self.view_is ∙ c.position-before.ensures.ends) ∙ sym c.open_count-open.ensures
    in
    let measured = last_text_measured items c.args.value c.open_count-open.result _ _ _ counted
    c.self.invariant.measured c.with_text.ensures c.with-measures.ensures in
    let content = measured.content ∙
    ap (λ (xs : List Item). capped (content_of (xs ++ text ∷ Close ∷ []))) c.self.view_is in
    λ _. subst (λ (n : ℕ). c.args.most < n) content c.if-measures-most.true

pub returns-clause-pushed : goal.returns-clause-pushed
returns-clause-pushed c =
    let items = c.self.inside.items in
    let text = Text c.args.value in
    let counted = open-position items c.position-before.result
    (ap position_of c.self.view_is ∙ c.position-before.ensures.ends) ∙ sym c.open_count-open.ensures
    in
    let measured = last_text_measured items c.args.value c.open_count-open.result _ _ _ counted
    c.self.invariant.measured c.with_text.ensures c.with-measures.ensures in
    let pushed = c.in_ok-push_two.ensures.pushed in
    let content = measured.content ∙ ap (λ (xs : List Item). capped (content_of xs)) (sym pushed) in (
      pushed ∙ ap (λ (xs : List Item). xs ++ text ∷ Close ∷ []) c.self.view_is,
      subst
          (λ (n : ℕ). n ≤ c.args.most) content c.if-measures-most.false,
    )
