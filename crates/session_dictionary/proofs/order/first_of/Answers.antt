use Rattle.std.proofs.Common.{◌≡◌, ℕ, ◌<◌, List, ◌∷◌, length, get_or, IfNone, Some, None, Option}
use Rattle.std.proofs.Common.{sym, refl, ap, ◌∙◌, subst, add-one, arith}
use Rattle.std.proofs.lemmas.Option.{IfSome_then}
use Rattle.session_dictionary.{specs.Order.IsOrder, proofs.CountFacts.positions_length}
use Rattle.session_dictionary.proofs.RunFacts.{first_upto, IsRun, none_upto, run_at, run_last}
use Rattle.session_dictionary.proofs.order.first_of.Goals as goal

if_none : {X : Type 0} {P Q : Type 0} (r : Option X) → (P → Q) → IfNone r P → IfNone r Q
if_none None turn p = turn p
if_none (Some x) turn p = tt

module _ (strings : List (List ℕ)) (positions cuts : List ℕ)
    (order : IsOrder strings positions cuts)
    (start k : ℕ) (is : start ≡ get_or (0 ∷ cuts) k 0) where
  -- the run that begins at a cut, and the last one
  here : k < length cuts → IsRun strings positions start (get_or cuts k 0)
  here h =
      subst (λ s. IsRun strings positions s (get_or cuts k 0)) (sym is)
      (run_at strings positions cuts order k h)

  last : k ≡ length cuts → IsRun strings positions start (length positions)
  last e =
      subst (λ s. IsRun strings positions s (length positions))
      (sym (is ∙ ap (λ i. get_or (0 ∷ cuts) i 0) e)) (run_last strings positions cuts order)

pub first_between-requires-clause-rises : goal.first_between-requires-clause-rises
first_between-requires-clause-rises c =
    let a = c.args in
    let l = c.loop-cut in
    let run = here a.texts.now a.positions.now a.cuts.now c.requires l.start l.cut-index in
    (run l.invariant.0 c.loop-cut-test.true).rises

pub first_between-requires-clause-within : goal.first_between-requires-clause-within
first_between-requires-clause-within c =
    let a = c.args in
    let l = c.loop-cut in
    let run = here a.texts.now a.positions.now a.cuts.now c.requires l.start l.cut-index in
    (run l.invariant.0 c.loop-cut-test.true).within

pub first_between-requires-clause-sorted : goal.first_between-requires-clause-sorted
first_between-requires-clause-sorted c =
    let a = c.args in
    let l = c.loop-cut in
    let run = here a.texts.now a.positions.now a.cuts.now c.requires l.start l.cut-index in
    (run l.invariant.0 c.loop-cut-test.true).sorted

pub returns-in-Some-clause-found : goal.returns-in-Some-clause-found
returns-in-Some-clause-found c =
    let a = c.args in
    let l = c.loop-cut in
    let end = get_or a.cuts.now l.cut-index 0 in
    let run = here a.texts.now a.positions.now a.cuts.now c.requires l.start l.cut-index in
    let first =
    first_upto a.texts.now a.positions.now a.cuts.now c.requires a.text.now l.start end in
    first (run l.invariant.0 c.loop-cut-test.true) l.invariant.1 c.in-Some.position
    c.in-Some.ensures.found

pub loop-cut-preserved : goal.loop-cut-preserved
loop-cut-preserved c =
    let a = c.args in
    let l = c.loop-cut in
    let end = get_or a.cuts.now l.cut-index 0 in
    let run = here a.texts.now a.positions.now a.cuts.now c.requires l.start l.cut-index in
    let none =
    none_upto a.texts.now a.positions.now a.cuts.now c.requires a.text.now l.start end in
    let known = run l.invariant.0 c.loop-cut-test.true in
    (rw add-one refl, none known l.invariant.1 c.in-None.ensures.none)

pub first_between-requires-2-clause-rises : goal.first_between-requires-2-clause-rises
first_between-requires-2-clause-rises c =
    let a = c.args in
    let l = c.loop-cut in
    let all : l.cut-index ≡ length a.cuts.now =
    omega (arith, c.loop-cut-test.false, l.auto.cut-index-end) in
    let run = last a.texts.now a.positions.now a.cuts.now c.requires l.start l.cut-index in
    (run l.invariant.0 all).rises

pub first_between-requires-2-clause-sorted : goal.first_between-requires-2-clause-sorted
first_between-requires-2-clause-sorted c =
    let a = c.args in
    let l = c.loop-cut in
    let all : l.cut-index ≡ length a.cuts.now =
    omega (arith, c.loop-cut-test.false, l.auto.cut-index-end) in
    let run = last a.texts.now a.positions.now a.cuts.now c.requires l.start l.cut-index in
    (run l.invariant.0 all).sorted

pub returns-clause-found : goal.returns-clause-found
returns-clause-found c =
    let a = c.args in
    let l = c.loop-cut in
    let end = length a.positions.now in
    let all : l.cut-index ≡ length a.cuts.now =
    omega (arith, c.loop-cut-test.false, l.auto.cut-index-end) in
    let run = last a.texts.now a.positions.now a.cuts.now c.requires l.start l.cut-index in
    let first =
    first_upto a.texts.now a.positions.now a.cuts.now c.requires a.text.now l.start end in
    IfSome_then c.first_between-2.result c.first_between-2.ensures.found
    (first (run l.invariant.0 all) l.invariant.1)

pub returns-clause-none : goal.returns-clause-none
returns-clause-none c =
    let a = c.args in
    let l = c.loop-cut in
    let end = length a.positions.now in
    let all : l.cut-index ≡ length a.cuts.now =
    omega (arith, c.loop-cut-test.false, l.auto.cut-index-end) in
    let run = last a.texts.now a.positions.now a.cuts.now c.requires l.start l.cut-index in
    let none =
    none_upto a.texts.now a.positions.now a.cuts.now c.requires a.text.now l.start end in
    let long = positions_length (length a.texts.now) a.positions.now c.requires.all in
    if_none c.first_between-2.result
    (λ found other h.
    none (run l.invariant.0 all) l.invariant.1 found other (omega (arith, long, h)))
    c.first_between-2.ensures.none
