use Rattle.std.proofs.Common.{◌≡◌, length, bytes_eq, sym, refl, ◌∙◌, arith, take_all, rules}
use Rattle.std.proofs.lemmas.{Bool.both_ways, Fn.answers_by}
use Rattle.{std.specs.Cmp.Lexicographic.bytes_decides, session_dictionary.proofs.RunFacts.parted}
use Rattle.session_dictionary.proofs.RunFacts.{first_found, is_before, none_found, none_past}
use Rattle.session_dictionary.proofs.order.first_in.Goals as goal

pub returns-in_err-position-clause-none : goal.returns-in_err-position-clause-none
returns-in_err-position-clause-none c =
    let strings = c.args.texts.now in
    let text = c.args.text.now in
    let point =
    c.partition_point-place.ensures.partitioned (is_before strings text)
    (answers_by _ _ (λ f. (f.0.now ≡ strings) × (f.1.now ≡ text))
    (λ f a r g k same. search rules) _ (refl, take_all (length text) text (omega arith)))
    (parted strings text c.args.run.now c.requires) in
    let past = c.in_err-position.ensures.lookup.3 in
    rw c.from_residual.ensures
    (none_past strings text c.args.run.now c.partition_point-place.result past point)

pub returns-then-eq-clause-found : goal.returns-then-eq-clause-found
returns-then-eq-clause-found c =
    let strings = c.args.texts.now in
    let text = c.args.text.now in
    let point =
    c.partition_point-place.ensures.partitioned (is_before strings text)
    (answers_by _ _ (λ f. (f.0.now ≡ strings) × (f.1.now ≡ text))
    (λ f a r g k same. search rules) _ (refl, take_all (length text) text (omega arith)))
    (parted strings text c.args.run.now c.requires) in
    let found = c.in_ok-position.ensures.lookup in
    let same = (bytes_decides c.nth.result.now text).0 (sym c.eq.ensures ∙ c.if-eq.true) in
    first_found strings text c.args.run.now c.partition_point-place.result
    c.in_ok-position.field-0.now c.requires point found.3.0 found.1 (sym c.nth.ensures ∙ same)

pub returns-else-eq-clause-none : goal.returns-else-eq-clause-none
returns-else-eq-clause-none c =
    let strings = c.args.texts.now in
    let text = c.args.text.now in
    let point =
    c.partition_point-place.ensures.partitioned (is_before strings text)
    (answers_by _ _ (λ f. (f.0.now ≡ strings) × (f.1.now ≡ text))
    (λ f a r g k same. search rules) _ (refl, take_all (length text) text (omega arith)))
    (parted strings text c.args.run.now c.requires) in
    let found = c.in_ok-position.ensures.lookup in
    let held = c.nth.result.now in
    none_found strings text c.args.run.now c.partition_point-place.result
    c.in_ok-position.field-0.now c.requires point found.3.0 found.1
    (λ has. both_ways (bytes_eq held text) (sym c.eq.ensures ∙ c.if-eq.false)
    ((bytes_decides held text).1 (c.nth.ensures ∙ has)))
