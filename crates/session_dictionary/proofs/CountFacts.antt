-- Facts about counts, and about positions below a bound, each of them once.
use Rattle.std.proofs.Common.{◌≡◌, ℕ, zero, suc, ◌+◌, ◌<◌, ◌≤◌, Bool, true, false, cond, ◌≢◌, List}
use Rattle.std.proofs.Common.{[], ◌∷◌, ◌++◌, length, take, drop, nat_lt, ◌==◌, All, count_by}
use Rattle.std.proofs.Common.{filter, IsPermutation, sym, refl, ap, ◌∙◌, inl, inr, arith}
use Rattle.std.proofs.Common.{length-take, ltb-false, ltb-true, le-ltb, lt-ltb, eq-eqb, ne_eqb}
use Rattle.std.proofs.lemmas.{Bool.cases_Bool, Bool.cases_lt, List.Sorted.sum_by-IsPermutation}
use Rattle.std.proofs.lemmas.List.Elements.{All-cons, All-head, All-nil, All-tail, All-weaker}
use Rattle.std.proofs.lemmas.List.Sums.{sum_by-cons, sum_by-take-drop, sum_by_push}
use Rattle.session_dictionary.specs.Order.{ArePositions, count_below}

-- what a test adds to a count
abbrev one : Bool → ℕ
one b = cond b 1 0

one_of : (b : Bool) → one b ≡ 0 → b ≡ false
one_of true e = absurd (omega (arith, e))
one_of false e = refl

-- a test that none passes
pub count_none : (test : ℕ → Bool) (xs : List ℕ) → All (λ x. test x ≡ false) xs
    → count_by test xs ≡ 0
count_none test [] none = refl
count_none test (x ∷ xs) none =
    let here : one (test x) ≡ 0 = rw (All-head (λ y. test y ≡ false) x xs none) refl in
    let rest = count_none test xs (All-tail (λ y. test y ≡ false) x xs none) in
    omega (arith, sum_by-cons (λ y. cond (test y) 1 0) x xs, here, rest)

pub none_counted : (test : ℕ → Bool) (xs : List ℕ) → count_by test xs ≡ 0
    → All (λ x. test x ≡ false) xs
none_counted test [] e = All-nil (λ x. test x ≡ false)
none_counted test (x ∷ xs) e =
    let all = sum_by-cons (λ y. cond (test y) 1 0) x xs in
    All-cons (λ y. test y ≡ false) x xs (one_of (test x) (omega (arith, all, e)))
    (none_counted test xs (omega (arith, all, e)))

count_each : (xs : List ℕ) → count_by (λ _. true) xs ≡ length xs
count_each [] = refl
count_each (x ∷ xs) = omega (arith, sum_by-cons (λ y. cond true 1 0) x xs, count_each xs)

-- both tests
abbrev pub both : (ℕ → Bool) → (ℕ → Bool) → ℕ → Bool
both first second x = cond (first x) (second x) false

count-filter : (test other : ℕ → Bool) (xs : List ℕ)
    → count_by test (filter other xs) ≡ count_by (both other test) xs
count-filter test other [] = refl
count-filter test other (x ∷ xs) =
    elim (cases_Bool (other x)) [
      | inl passes ↦
          let here : one (both other test x) ≡ one (test x) = rw passes refl in
          let kept : count_by test (filter other (x ∷ xs)) ≡ count_by test (x ∷ filter other xs) =
          rw passes refl in
          let more = sum_by-cons (λ y. cond (test y) 1 0) x (filter other xs) in
          let all = sum_by-cons (λ y. cond (both other test y) 1 0) x xs in
          omega (arith, kept, here, more, all, count-filter test other xs)
      | inr fails ↦
          let here : one (both other test x) ≡ 0 = rw fails refl in
          let left : count_by test (filter other (x ∷ xs)) ≡ count_by test (filter other xs) =
          rw fails refl in
          let all = sum_by-cons (λ y. cond (both other test y) 1 0) x xs in
          omega (arith, left, here, all, count-filter test other xs)
    ]

below_same : (first second : ℕ → Bool) (n : ℕ) → ((k : ℕ) → k < n → first k ≡ second k)
    → count_below first n ≡ count_below second n
below_same first second zero same = refl
below_same first second (suc n) same =
    let here : one (first n) ≡ one (second n) = ap one (same n (omega arith)) in
    omega (arith, here, below_same first second n (λ k h. same k (omega arith)))

below_none : (test : ℕ → Bool) (n : ℕ) → ((k : ℕ) → k < n → test k ≡ false) → count_below test n ≡ 0
below_none test zero none = refl
below_none test (suc n) none =
    let here : one (test n) ≡ 0 = rw (none n (omega arith)) refl in
    omega (arith, here, below_none test n (λ k h. none k (omega arith)))

below_each : (n : ℕ) → count_below (λ _. true) n ≡ n
below_each zero = refl
below_each (suc n) = omega (arith, below_each n)

below_some : (test : ℕ → Bool) (n k : ℕ) → k < n → test k ≡ true → 1 ≤ count_below test n
below_some test zero k h passes = absurd (omega arith)
below_some test (suc n) k h passes =
    elim (cases_lt k n) [
      | inl less ↦ omega (arith, below_some test n k less passes)
      | inr last ↦
          let same : k ≡ n = omega arith in
          let here : one (test n) ≡ 1 = rw (← same, passes) refl in
          omega (arith, here)
    ]

below_cut : (test : ℕ → Bool) (n m : ℕ) → m ≤ n
    → count_below (both (λ k. nat_lt k m) test) n ≡ count_below test m
below_cut test zero m h = let none : m ≡ 0 = omega arith in rw none refl
below_cut test (suc n) m h =
    elim (cases_lt n m) [
      | inl whole ↦
          let all : suc n ≡ m = omega arith in
          below_same (both (λ k. nat_lt k m) test) test (suc n)
          (λ k less. rw (lt-ltb k m (omega arith)) refl) ∙ ap (count_below test) all
      | inr part ↦
          let here : one (both (λ k. nat_lt k m) test n) ≡ 0 = rw (le-ltb n m part) refl in
          omega (arith, here, below_cut test n m part)
    ]

-- the numbers below one of them
below_below : (n m : ℕ) → m ≤ n → count_below (λ k. nat_lt k m) n ≡ m
below_below n m h =
    below_same (λ k. nat_lt k m) (both (λ k. nat_lt k m) (λ _. true)) n
    (λ k less. as_both (nat_lt k m)) ∙ below_cut (λ _. true) n m h ∙ below_each m
  where
    as_both : (b : Bool) → b ≡ cond b true false
    as_both true = refl
    as_both false = refl

pub positions_length : (n : ℕ) (xs : List ℕ) → ArePositions n xs → length xs ≡ n
positions_length n xs are = sym (count_each xs) ∙ are.each (λ _. true) ∙ below_each n

pub positions_below : (n : ℕ) (xs : List ℕ) → ArePositions n xs → All (λ x. x < n) xs
positions_below n xs are =
    let test : ℕ → Bool = λ x. cond (nat_lt x n) false true in
    let none =
    none_counted test xs (are.each test ∙ below_none test n (λ k h. rw (lt-ltb k n h) refl)) in
    All-weaker (λ x. test x ≡ false) (λ x. x < n) (λ x e. ltb-true x n (passes (nat_lt x n) e)) xs
    none
  where
    passes : (b : Bool) → cond b false true ≡ false → b ≡ true
    passes true e = refl
    passes false e = cc e

pub positions_none : ArePositions 0 []
positions_none = record { each = λ test. refl }

next : (n : ℕ) → suc n ≡ n + 1
next n = omega arith

pub positions_push : (n : ℕ) (xs : List ℕ) → ArePositions n xs → ArePositions (n + 1) (xs ++ n ∷ [])
positions_push n xs are =
    record {
      each = λ test. sum_by_push (λ x. cond (test x) 1 0) xs n
          ∙ ap (λ count. count + cond (test n) 1 0) (are.each test)
          ∙ ap (count_below test) (next n);
    }

pub positions_moved : (n : ℕ) (xs ys : List ℕ) → IsPermutation xs ys → ArePositions n xs
    → ArePositions n ys
positions_moved n xs ys moved are =
    record {
      each = λ test. sum_by-IsPermutation (λ x. cond (test x) 1 0) xs ys moved
          ∙ are.each test;
    }

pub positions_cut : (n m : ℕ) (xs : List ℕ) → ArePositions n xs → m ≤ n
    → ArePositions m (filter (λ x. nat_lt x m) xs)
positions_cut n m xs are h =
    record {
      each = λ test. count-filter test (λ x. nat_lt x m) xs
          ∙ are.each (both (λ x. nat_lt x m) test) ∙ below_cut test n m h;
    }

-- a front of positions has no more of them
pub front_le : (n s : ℕ) (xs : List ℕ) → ArePositions n xs → ArePositions s (take s xs) → s ≤ n
front_le n s xs are front =
    omega (arith, positions_length n xs are, positions_length s (take s xs) front, length-take s xs)

-- where the first positions stand in front, the others stand after them
pub rest_above : (n s : ℕ) (xs : List ℕ) → ArePositions n xs → ArePositions s (take s xs)
    → All (λ x. s ≤ x) (drop s xs)
rest_above n s xs are front =
    let test : ℕ → Bool = λ x. nat_lt x s in
    let all = sum_by-take-drop (λ x. cond (test x) 1 0) xs s in
    let low = below_below n s (front_le n s xs are front) in
    let each = below_below s s (omega arith) in
    let none =
    none_counted test (drop s xs)
    (omega (arith, all, are.each test, front.each test, low, each)) in
    All-weaker (λ x. test x ≡ false) (λ x. s ≤ x) (λ x e. ltb-false x s e) (drop s xs) none

-- a position stands after the first ones where it is none of them
pub stands_after : (n s q : ℕ) (xs : List ℕ) → ArePositions n xs → ArePositions s (take s xs)
    → s ≤ q → q < n → All (λ x. x ≢ q) (drop s xs) → ⊥
stands_after n s q xs are front low high none =
    let test : ℕ → Bool = λ x. x == q in
    let all = sum_by-take-drop (λ x. cond (test x) 1 0) xs s in
    let before =
    front.each test ∙ below_none test s (λ k h. ne_eqb k q (λ e. omega (arith, e, h, low))) in
    let after =
    count_none test (drop s xs)
    (All-weaker (λ x. x ≢ q) (λ x. test x ≡ false) (λ x other. ne_eqb x q other)
    (drop s xs) none) in
    omega (arith, all, before, after, are.each test, below_some test n q high (eq-eqb q q refl))
