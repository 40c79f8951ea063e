-- How the order of positions goes on: by one more text, by runs that are joined, and by a cut.
use Rattle.std.proofs.Common.{◌≡◌, ℕ, ◌+◌, ◌<◌, ◌≤◌, Bool, true, ◌↔◌, List, [], ◌∷◌, ◌++◌, length}
use Rattle.std.proofs.Common.{get_or, take, drop, nat_lt, All, filter, IsPermutation, IsSorted}
use Rattle.std.proofs.Common.{is_lt, sym, ◌∙◌, subst, inl, inr, arith, length-append, length-drop}
use Rattle.std.proofs.Common.{take-append-drop, length-take, length-take-le, get_or-drop}
use Rattle.std.proofs.Common.{get_or-take, take-take, take_at, ltb-false, ltb-true, lt-ltb}
use Rattle.std.proofs.lemmas.Bool.{cases_Bool, cases_lt}
use Rattle.std.proofs.lemmas.Cmp.{nat_cmp_total, nat_list_cmp_total, on_total, then_total}
use Rattle.std.proofs.lemmas.List.{get_or_append_left, get_or_default, take-append-le}
use Rattle.std.proofs.lemmas.List.Elements.{All-append, All-filter, All-push, All-take, All-weaker}
use Rattle.std.proofs.lemmas.List.{Elements.filter_passes, Sorted.sorted_far}
use Rattle.std.proofs.lemmas.List.Sorted.{All-permutation, IsPermutation-append_right, ranks_by}
use Rattle.std.specs.Cmp.{IsStrictWeakOrder, IsTotalOrder}
use Rattle.session_dictionary.specs.Order.{ArePositions, by_text, EachPair, InOrder, InRuns}
use Rattle.session_dictionary.specs.Order.{IsOneRun, IsOrder, text_of}
use Rattle.session_dictionary.proofs.CountFacts.{positions_below, positions_cut, positions_length}
use Rattle.session_dictionary.proofs.CountFacts.{positions_moved, positions_push, rest_above}
use Rattle.session_dictionary.proofs.PairFacts.{all_front, all_last, all_passing, pair_at}
use Rattle.session_dictionary.proofs.PairFacts.{pairs-append, pairs-filter, pairs-push, pairs-take}
use Rattle.session_dictionary.proofs.PairFacts.{pairs_from, pairs_turn, take-filter}

-- positions have a total order
pub by_text_total : (strings : List (List ℕ)) → IsTotalOrder (by_text strings)
by_text_total strings = then_total (on_total (text_of strings) nat_list_cmp_total) nat_cmp_total

pub by_text_weak : (strings : List (List ℕ))
    → IsStrictWeakOrder (λ x y. is_lt (by_text strings x y))
by_text_weak strings = ranks_by (by_text_total strings) (λ x. x)

-- what a sort gives
pub pairs_sorted : (strings : List (List ℕ)) (run : List ℕ) → IsSorted (by_text strings) run
    → EachPair (InOrder strings) run
pairs_sorted strings run sorted =
    let far = sorted_far (λ x y. is_lt (by_text strings x y)) (by_text_weak strings) run sorted in
    pairs_from (InOrder strings) run (λ i j d less within. far i j d (omega arith) within)

-- texts that are the same at two positions leave their order
same_order : (strings others : List (List ℕ)) (x y : ℕ) → text_of others x ≡ text_of strings x
    → text_of others y ≡ text_of strings y → InOrder strings x y → InOrder others x y
same_order strings others x y first second order = rw (first, second) order

-- the first so many positions stand in front, also where more come after them
abbrev pub Begins : List ℕ → ℕ → Type 0
Begins positions bound = ArePositions bound (take bound positions)

begins-append : (positions more : List ℕ) (bound : ℕ) → bound ≤ length positions
    → Begins positions bound → Begins (positions ++ more) bound
begins-append positions more bound le begins =
    subst (λ xs. ArePositions bound xs) (sym (take-append-le bound positions more le)) begins

-- and where what comes after them is cut off
pub begins-take : (positions : List ℕ) (bound end : ℕ) → bound ≤ end → Begins positions bound
    → Begins (take end positions) bound
begins-take positions bound end le begins =
    subst (λ xs. ArePositions bound xs) (sym (take-take bound end positions le)) begins

-- a cut is no greater than the number of positions
pub cut_le : (strings : List (List ℕ)) (positions cuts : List ℕ) → IsOrder strings positions cuts
    → All (λ cut. cut ≤ length positions) cuts
cut_le strings positions cuts order =
    All-weaker (λ cut. Begins positions cut) (λ cut. cut ≤ length positions)
    (λ cut front.
    omega (arith, positions_length cut (take cut positions) front, length-take cut positions))
    cuts order.apart

-- one more text, with a run of its own
pub order_push : (strings : List (List ℕ)) (text : List ℕ) (positions cuts : List ℕ) (n : ℕ)
    → n ≡ length strings → IsOrder strings positions cuts
    → IsOrder (strings ++ text ∷ []) (positions ++ n ∷ []) (cuts ++ n ∷ [])
order_push strings text positions cuts n is order =
    let more = strings ++ text ∷ [] in
    let here : ArePositions n positions = rw is order.all in
    let below = positions_below n positions here in
    let long = positions_length n positions here in
    let fits = cut_le strings positions cuts order in
    let next : n + 1 ≡ length more = omega (arith, is, length-append strings (text ∷ [])) in
    let last : Begins (positions ++ n ∷ []) n =
    subst (λ xs. ArePositions n xs) (sym (take_at positions (n ∷ []) n long)) here in
    record {
      all =
          let one_more = positions_push n positions here in
          subst (λ m. ArePositions m (positions ++ n ∷ [])) next one_more;
      apart =
          All-push (λ cut. Begins (positions ++ n ∷ []) cut) cuts n
          (λ k d h. begins-append positions (n ∷ []) (get_or cuts k d) (fits k d h)
          (order.apart k d h))
          last;
      rises = pairs-push ◌≤◌ cuts n order.rises (λ k d h. omega (arith, fits k d h, long));
      sorted =
          pairs-push (InRuns more (cuts ++ n ∷ [])) positions n
          (pairs_turn (λ x. x < n) (InRuns strings cuts) (InRuns more (cuts ++ n ∷ []))
          (λ x y first second known one. same_order strings more x y (same x first) (same y second)
          (known (all_front (λ cut. (cut ≤ x) ↔ (cut ≤ y)) cuts (n ∷ []) one)))
          positions below order.sorted)
          (λ k d h one. absurd (
          let x = get_or positions k d in
          let last = all_last (λ cut. (cut ≤ x) ↔ (cut ≤ n)) cuts n one in
          omega (arith, last.1 (omega arith), below k d h)));
    }
  where
    same : (x : ℕ) → x < n → text_of (strings ++ text ∷ []) x ≡ text_of strings x
    same x h = get_or_append_left strings (text ∷ []) [] x (omega (arith, is, h))

-- cuts after two positions do not part them
wider : (front rest : List ℕ) (s x y : ℕ) → All (λ cut. s ≤ cut) rest → x < s → y < s
    → IsOneRun front x y → IsOneRun (front ++ rest) x y
wider front rest s x y above first second one =
    All-append (λ cut. (cut ≤ x) ↔ (cut ≤ y)) front rest one
    (λ k d h. (
      (λ low. absurd (omega (arith, above k d h, low, first))),
      (λ low. absurd (omega (arith, above k d h, low, second))),
    ))

-- the cuts up to one are no greater, and those after it no less
cuts_upto : (cuts : List ℕ) (k s : ℕ) → k < length cuts → s ≡ get_or cuts k 0
    → EachPair ◌≤◌ cuts → All (λ cut. cut ≤ s) (take (k + 1) cuts)
cuts_upto cuts k s h is rises i d within =
    let short : i < k + 1 = omega (arith, within, length-take (k + 1) cuts) in
    rw get_or-take (upto i d short (omega (arith, within, length-take (k + 1) cuts)))
  where
    upto : (i d : ℕ) → i < k + 1 → i < length cuts → get_or cuts i d ≤ s
    upto i d short there =
        elim (cases_lt i k) [
          | inl less ↦
              let pair = pair_at ◌≤◌ cuts i k d less h rises in
              omega (arith, pair, get_or_default cuts k d 0 h, is)
          | inr last ↦
              let same : i ≡ k = omega arith in
              rw same (omega (arith, get_or_default cuts k d 0 h, is))
        ]

cuts_from : (cuts : List ℕ) (k s : ℕ) → k < length cuts → s ≡ get_or cuts k 0
    → EachPair ◌≤◌ cuts → All (λ cut. s ≤ cut) (drop (k + 1) cuts)
cuts_from cuts k s h is rises i d within =
    let after : k + 1 + i < length cuts = omega (arith, within, length-drop (k + 1) cuts) in
    let pair = pair_at ◌≤◌ cuts k (k + 1 + i) d (omega arith) after rises in
    rw get_or-drop (omega (arith, pair, get_or_default cuts k d 0 h, is))

-- the runs from a cut on, joined to one
pub order_join : (strings : List (List ℕ)) (positions cuts run : List ℕ) (k s : ℕ)
    → k < length cuts → s ≡ get_or cuts k 0 → IsPermutation (drop s positions) run
    → IsSorted (by_text strings) run → IsOrder strings positions cuts
    → IsOrder strings (take s positions ++ run) (take (k + 1) cuts)
order_join strings positions cuts run k s h is moved sorted order =
    let n = length strings in
    let fits : s ≤ length positions = rw is (cut_le strings positions cuts order k 0 h) in
    let front : Begins positions s = rw is (order.apart k 0 h) in
    let long : length (take s positions) ≡ s = length-take-le s positions fits in
    let upto = cuts_upto cuts k s h is order.rises in
    let all_moved : IsPermutation positions (take s positions ++ run) =
    subst (λ xs. IsPermutation xs (take s positions ++ run)) (take-append-drop s positions)
    (IsPermutation-append_right (take s positions) (drop s positions) run moved) in
    let rest = rest_above n s positions order.all front in
    let above = All-permutation (λ x. s ≤ x) (drop s positions) run moved rest in
    let below = positions_below s (take s positions) front in
    let R = InRuns strings cuts in
    let few = take (k + 1) cuts in
    let S = InRuns strings few in
    let in_front : EachPair S (take s positions) =
    pairs_turn (λ x. x < s) R S
    (λ x y first second known one.
    known (all_cuts x y (cuts_from cuts k s h is order.rises) first second one))
    (take s positions) below (pairs-take R s positions order.sorted) in
    let in_run : EachPair S run =
    pairs_turn (λ x. s ≤ x) (InOrder strings) S (λ x y first second known one. known) run above
    (pairs_sorted strings run sorted) in
    record {
      all = positions_moved n positions (take s positions ++ run) all_moved order.all;
      apart = λ i d within.
          let begins = All-take (λ cut. Begins positions cut) (k + 1) cuts order.apart i d within in
          kept (get_or few i d) long (upto i d within) begins;
      rises = pairs-take ◌≤◌ (k + 1) cuts order.rises;
      sorted =
          pairs-append S (take s positions) run in_front in_run
          (λ i d first j e second one. absurd (
          let there = one k 0 (omega (arith, length-take (k + 1) cuts, h)) in
          let cut : get_or few k 0 ≡ s = get_or-take (k + 1) cuts k 0 (omega arith) ∙ sym is in
          omega (
            arith,
            below i d first,
            cut,
            there.1 (omega (arith, cut, above j e second)),
          )));
    }
  where
    kept : (cut : ℕ) → length (take s positions) ≡ s → cut ≤ s → Begins positions cut
        → Begins (take s positions ++ run) cut
    kept cut long le begins =
        begins-append (take s positions) run cut (omega (arith, long, le))
        (begins-take positions cut s le begins)

    all_cuts : (x y : ℕ) → All (λ cut. s ≤ cut) (drop (k + 1) cuts) → x < s → y < s
        → IsOneRun (take (k + 1) cuts) x y → IsOneRun cuts x y
    all_cuts x y above first second one =
        subst (λ cs. IsOneRun cs x y) (take-append-drop (k + 1) cuts)
        (wider (take (k + 1) cuts) (drop (k + 1) cuts) s x y above first second one)

-- the positions below a bound
pub order_cut : (strings : List (List ℕ)) (positions cuts : List ℕ) (m : ℕ) → m ≤ length strings
    → IsOrder strings positions cuts
    → IsOrder (take m strings) (filter (λ x. nat_lt x m) positions)
    (filter (λ cut. nat_lt cut m) cuts)
order_cut strings positions cuts m h order =
    let low : ℕ → Bool = λ x. nat_lt x m in
    let long : length (take m strings) ≡ m = length-take-le m strings h in
    let few = filter low cuts in
    let R = InRuns strings cuts in
    record {
      all =
          let these = positions_cut (length strings) m positions order.all h in
          subst (λ n. ArePositions n (filter low positions)) (sym long) these;
      apart = λ k d within.
          let begins = All-filter low (λ cut. Begins positions cut) cuts order.apart k d within in
          kept (get_or few k d) (filter_passes low cuts k d within) begins;
      rises = pairs-filter ◌≤◌ low cuts order.rises;
      sorted =
          pairs_turn (λ x. low x ≡ true) R (InRuns (take m strings) few)
          (λ x y first second known one. same_order strings (take m strings) x y (same x first)
          (same y second) (known (across x y first second one)))
          (filter low positions) (filter_passes low positions)
          (pairs-filter R low positions order.sorted);
    }
  where
    same : (x : ℕ) → nat_lt x m ≡ true → text_of (take m strings) x ≡ text_of strings x
    same x e = get_or-take m strings x [] (ltb-true x m e)

    kept : (cut : ℕ) → nat_lt cut m ≡ true → Begins positions cut
        → Begins (filter (λ x. nat_lt x m) positions) cut
    kept cut e begins =
        let low : ℕ → Bool = λ x. nat_lt x m in
        let part = take cut positions in
        let passes =
        All-weaker (λ x. x < cut) (λ x. low x ≡ true)
        (λ x less. lt-ltb x m (omega (arith, less, ltb-true cut m e)))
        part (positions_below cut part begins) in
        subst (λ xs. ArePositions cut xs) (sym (take-filter low positions cut passes)) begins

    across : (x y : ℕ) → nat_lt x m ≡ true → nat_lt y m ≡ true
        → IsOneRun (filter (λ cut. nat_lt cut m) cuts) x y → IsOneRun cuts x y
    across x y first second one k d within =
        let cut = get_or cuts k d in
        elim (cases_Bool (nat_lt cut m)) [
          | inl low ↦
              all_passing (λ c. (c ≤ x) ↔ (c ≤ y)) (λ c. nat_lt c m) cuts one k d within low
          | inr high ↦
              let above : m ≤ cut = ltb-false cut m high in (
                (λ le. absurd (omega (arith, above, le, ltb-true x m first))),
                (λ le. absurd (omega (arith, above, le, ltb-true y m second))),
              )
        ]
