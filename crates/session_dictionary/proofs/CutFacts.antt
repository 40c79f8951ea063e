-- What is left of the positions where a table is cut back.
use Rattle.std.proofs.Common.{◌≡◌, ℕ, zero, suc, ◌+◌, ◌<◌, ◌≤◌, Bool, true, false, List, [], ◌∷◌}
use Rattle.std.proofs.Common.{◌++◌, length, get_or, take, drop, nat_lt, All, filter, sym, refl, ap}
use Rattle.std.proofs.Common.{◌∙◌, subst, inl, inr, append-nil, arith, length-drop}
use Rattle.std.proofs.Common.{take-append-drop, length-take, get_or-drop, take_all, get_or-take}
use Rattle.std.proofs.Common.{ltb-false, ltb-true, le-ltb, lt-ltb}
use Rattle.std.proofs.lemmas.Bool.{cases_lt}
use Rattle.std.proofs.lemmas.List.Elements.{All-filter, All-head, All-nil, All-tail, All-weaker}
use Rattle.std.proofs.lemmas.List.Elements.{filter-append, filter_passes}
use Rattle.std.specs.List.Sorted.{IsPartitionPoint, IsPartitionedBy}
use Rattle.session_dictionary.specs.Order.{ArePositions, EachPair, IsCutTo, IsOrder}
use Rattle.session_dictionary.proofs.CountFacts.{positions_below, positions_length, rest_above}
use Rattle.session_dictionary.proofs.{OrderFacts.begins-take, PairFacts.pair_at}

-- where all pass a test, and where none does
pub filter_each : {A : Type 0} (test : A → Bool) (xs : List A) → All (λ x. test x ≡ true) xs
    → filter test xs ≡ xs
filter_each test [] all = refl
filter_each test (x ∷ xs) all =
    let rest = filter_each test xs (All-tail (λ y. test y ≡ true) x xs all) in
    rw (All-head (λ y. test y ≡ true) x xs all) (ap (λ ys. x ∷ ys) rest)

filter_no : {A : Type 0} (test : A → Bool) (xs : List A) → All (λ x. test x ≡ false) xs
    → filter test xs ≡ []
filter_no test [] none = refl
filter_no test (x ∷ xs) none =
    rw (All-head (λ y. test y ≡ false) x xs none)
    (filter_no test xs (All-tail (λ y. test y ≡ false) x xs none))

-- where all after a place fail a test, what passes stands before it
filter_front : {A : Type 0} (test : A → Bool) (xs : List A) (n : ℕ)
    → All (λ x. test x ≡ false) (drop n xs) → filter test (take n xs) ≡ filter test xs
filter_front test xs n none =
    let rest = filter_no test (drop n xs) none in
    let parts = filter-append test (take n xs) (drop n xs) in
    let whole = ap (filter test) (take-append-drop n xs) in
    sym (sym whole ∙ parts ∙ ap (λ ys. filter test (take n xs) ++ ys) rest
    ∙ append-nil (filter test (take n xs)))

-- where all before a place pass it
pub filter_rest : {A : Type 0} (test : A → Bool) (xs : List A) (n : ℕ)
    → All (λ x. test x ≡ true) (take n xs) → take n xs ++ filter test (drop n xs) ≡ filter test xs
filter_rest test xs n all =
    let first = filter_each test (take n xs) all in
    let parts = filter-append test (take n xs) (drop n xs) in
    let whole = ap (filter test) (take-append-drop n xs) in
    sym (sym whole ∙ parts ∙ ap (λ ys. ys ++ filter test (drop n xs)) first)

-- a bound as a test
abbrev pub below : ℕ → ℕ → Bool
below bound x = nat_lt x bound

pub all_below : (bound : ℕ) (xs : List ℕ) → All (λ x. x < bound) xs
    → All (λ x. below bound x ≡ true) xs
all_below bound xs all =
    All-weaker (λ x. x < bound) (λ x. below bound x ≡ true) (λ x h. lt-ltb x bound h) xs all

all_above : (bound : ℕ) (xs : List ℕ) → All (λ x. bound ≤ x) xs
    → All (λ x. below bound x ≡ false) xs
all_above bound xs all =
    All-weaker (λ x. bound ≤ x) (λ x. below bound x ≡ false) (λ x h. le-ltb x bound h) xs all

-- the cuts below a bound, where one is found by halving
abbrev pub IsCutPoint : ℕ → List ℕ → ℕ → Type 0
IsCutPoint bound cuts kept =
    IsPartitionPoint (λ cut. below bound cut ≡ true) (λ cut. below bound cut ≡ false) cuts kept

-- the cuts rise, so those below a bound stand in front
pub cuts_parted : (bound : ℕ) (cuts : List ℕ) → EachPair ◌≤◌ cuts
    → IsPartitionedBy (below bound) cuts
cuts_parted bound cuts rises i j d le within passes =
    elim (cases_lt i j) [
      | inl less ↦
          let pair = pair_at ◌≤◌ cuts i j d less within rises in
          lt-ltb (get_or cuts i d) bound
          (omega (arith, pair, ltb-true (get_or cuts j d) bound passes))
      | inr most ↦ let same : i ≡ j = omega arith in rw same passes
    ]

module _ (strings : List (List ℕ)) (positions cuts : List ℕ) (bound kept : ℕ)
    (there : bound ≤ length strings) (order : IsOrder strings positions cuts)
    (point : IsCutPoint bound cuts kept) where
  -- the cuts that are kept are those below the bound
  pub cuts_kept : take kept cuts ≡ filter (below bound) cuts
  cuts_kept =
      let first : All (λ cut. below bound cut ≡ true) (take kept cuts) =
      λ k d h.
      let less : k < kept = omega (arith, length-take kept cuts) in
      rw get_or-take (point.0 k d (omega arith) less) in
      let rest : All (λ cut. below bound cut ≡ false) (drop kept cuts) =
      λ k d h.
      rw get_or-drop (point.1 (kept + k) d (omega arith) (omega (arith, length-drop kept cuts))) in
      sym (filter_each (below bound) (take kept cuts) first)
      ∙ filter_front (below bound) cuts kept rest

  -- and each begins a run of what is left up to a place from the bound on
  kept_apart : (end : ℕ) → bound ≤ end
      → All (λ cut. ArePositions cut (take cut (take end positions))) (take kept cuts)
  kept_apart end high =
      subst (All (λ cut. ArePositions cut (take cut (take end positions)))) (sym cuts_kept)
      (passing cuts order.apart)
    where
      passing : (xs : List ℕ) → All (λ cut. ArePositions cut (take cut positions)) xs
          → All (λ cut. ArePositions cut (take cut (take end positions))) (filter (below bound) xs)
      passing xs all k d h =
          let cut = get_or (filter (below bound) xs) k d in
          let low = ltb-true cut bound (filter_passes (below bound) xs k d h) in
          begins-take positions cut end (omega (arith, low, high))
          (All-filter (below bound) (λ c. ArePositions c (take c positions)) xs all k d h)

  -- where the first run that goes begins, all positions from there on go
  pub cut_here : (cut : ℕ) → kept < length cuts → cut ≡ get_or cuts kept cut
      → IsCutTo bound (take kept cuts) positions (take cut positions)
  cut_here cut h is =
      let begins : ArePositions cut (take cut positions) = rw is (order.apart kept cut h) in
      let long = positions_length cut (take cut positions) begins in
      let fails : below bound cut ≡ false = rw is (point.1 kept cut (omega arith) h) in
      let high : bound ≤ cut = ltb-false cut bound fails in
      let rest = rest_above (length strings) cut positions order.all begins in
      record {
        all = rw long begins;
        apart = kept_apart cut high;
        same = filter_front (below bound) positions cut (all_above bound (drop cut positions)
            (All-weaker (λ x. cut ≤ x) (λ x. bound ≤ x) (λ x le. omega (arith, le, high))
            (drop cut positions) rest));
      }

  -- where no cut is above the bound
  pub cuts_whole : length cuts ≤ kept → cuts ≡ filter (below bound) cuts
  cuts_whole past = sym (take_all kept cuts past) ∙ cuts_kept

-- where no run goes, all positions are left
pub cut_nowhere : (strings : List (List ℕ)) (positions cuts : List ℕ) (bound : ℕ)
    → IsOrder strings positions cuts → IsCutTo bound cuts positions positions
cut_nowhere strings positions cuts bound order =
    let long = positions_length (length strings) positions order.all in
    record { all = rw long order.all; apart = order.apart; same = refl }

-- what is left before the last run is below the bound
module _ (bound : ℕ) (cuts positions left : List ℕ) (cut_to : IsCutTo bound cuts positions left)
    (low : All (λ cut. below bound cut ≡ true) cuts) where
  pub last_within : (n : ℕ) → n ≤ length cuts → get_or (0 ∷ cuts) n 0 ≤ length left
  last_within zero h = omega arith
  last_within (suc n) h =
      let cut = get_or cuts n 0 in
      let begins = cut_to.apart n 0 (omega arith) in
      omega (arith, positions_length cut (take cut left) begins, length-take cut left)

  pub before_last : (n : ℕ) → n ≤ length cuts
      → All (λ x. x < bound) (take (get_or (0 ∷ cuts) n 0) left)
  before_last zero h = All-nil (λ x. x < bound)
  before_last (suc n) h =
      let cut = get_or cuts n 0 in
      let begins = cut_to.apart n 0 (omega arith) in
      let less = ltb-true cut bound (low n 0 (omega arith)) in
      All-weaker (λ x. x < cut) (λ x. x < bound) (λ x first. omega (arith, first, less))
      (take cut left) (positions_below cut (take cut left) begins)

-- as many positions as the bound are all below it
pub few_below : (bound : ℕ) (left : List ℕ) → ArePositions (length left) left
    → length left ≤ bound → left ≡ filter (below bound) left
few_below bound left all few =
    sym (filter_each (below bound) left (all_below bound left
    (All-weaker (λ x. x < length left) (λ x. x < bound) (λ x h. omega (arith, h, few)) left
    (positions_below (length left) left all))))
