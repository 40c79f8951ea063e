use Rattle.std.proofs.Common.{◌≡◌, ℕ, ◌+◌, ◌<◌, List, ◌++◌, length, get_or, take, drop}
use Rattle.std.proofs.Common.{IsPermutation, IsSorted, sym, ap, ◌∙◌, subst, arith, length-append}
use Rattle.std.proofs.Common.{take-append-drop, take_at, rules}
use Rattle.std.proofs.lemmas.List.{get_or_default, Sorted.length_permutation}
use Rattle.session_dictionary.specs.Order.{by_text, IsOrder}
use Rattle.session_dictionary.proofs.{OrderFacts.cut_le, OrderFacts.order_join, ResultFacts.on_ok}
use Rattle.session_dictionary.proofs.order.join.Goals as goal

pub joined-place-requires-clause-within : goal.joined-place-requires-clause-within
joined-place-requires-clause-within c =
    let long : c.len.result ≡ length c.args.positions.now.items = search rules in
    let a = c.args in
    rw (c.deref.ensures.value, long)
    (cut_le a.texts.now a.positions.now.items a.cuts.now.items c.requires.order)

pub sort_from-requires : goal.sort_from-requires
sort_from-requires c =
    let cuts = c.args.cuts.now.items in
    let place = c.joined-place.result in
    let there : place < length cuts =
    omega (arith, c.joined-place.ensures, ap length c.deref.ensures.value) in
    let fits = cut_le c.args.texts.now c.args.positions.now.items cuts c.requires.order in
    rw c.deref_mut.ensures.value
    (omega (arith, c.index-start.ensures, fits place c.index-start.result.now there))

module _ (strings : List (List ℕ)) (old given positions cuts : List ℕ) (k s n : ℕ)
    (order : IsOrder strings old cuts) (given_is : given ≡ old) (h : k < length cuts)
    (is : s ≡ get_or cuts k s) (n_is : n ≡ length old) (before : take s positions ≡ take s given)
    (same : IsPermutation (drop s given) (drop s positions))
    (sorted : IsSorted (by_text strings) (drop s positions)) where
  -- in place of the positions there are those that were sorted
  written : IsOrder strings (take n (positions ++ drop (length positions) old)) (take (k + 1) cuts)
  written =
      let run = drop s positions in
      let moved = subst (λ xs. IsPermutation (drop s xs) run) given_is same in
      let at = is ∙ get_or_default cuts k s 0 h in
      let joined = order_join strings old cuts run k s h at moved sorted order in
      let front : take s old ≡ take s positions = sym (before ∙ ap (take s) given_is) in
      let whole : take s old ++ run ≡ positions =
      ap (λ xs. xs ++ run) front ∙ take-append-drop s positions in
      let long : length positions ≡ n =
      omega (
        arith,
        n_is,
        ap length given_is,
        ap length before,
        parts s positions,
        parts s given,
        length_permutation (drop s given) run same,
      ) in
      subst (λ xs. IsOrder strings xs (take (k + 1) cuts))
      (whole ∙ sym (take_at positions (drop (length positions) old) n long)) joined
    where
      parts : (s : ℕ) (xs : List ℕ) → length (take s xs) + length (drop s xs) ≡ length xs
      parts s xs =
          sym (length-append (take s xs) (drop s xs)) ∙ ap length (take-append-drop s xs)

pub returns-then-is_ok : goal.returns-then-is_ok
returns-then-is_ok c =
    let a = c.args in
    let cuts = a.cuts.now.items in
    let there : c.joined-place.result < length cuts =
    omega (arith, c.joined-place.ensures, ap length c.deref.ensures.value) in
    let done = sym c.is_ok.ensures.value ∙ c.if-is_ok.true in
    rw c.truncate.ensures.items
    (written a.texts.now a.positions.now.items c.deref_mut.result.now c.sort_from.new.positions
    cuts c.joined-place.result c.index-start.result.now a.positions.now.len c.requires.order
    c.deref_mut.ensures.value there c.index-start.ensures (search rules)
    c.sort_from.ensures.before c.sort_from.ensures.same
    (on_ok c.sort_from.result done c.sort_from.ensures.sorted))
