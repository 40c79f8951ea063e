-- Facts about each element of a list and each after it.
use Rattle.std.proofs.Common.{◌≡◌, ℕ, zero, suc, ◌<◌, Bool, true, List, [], ◌∷◌, ◌++◌, length}
use Rattle.std.proofs.Common.{get_or, take, drop, All, filter, AllPairs, refl, ap, inl, inr, arith}
use Rattle.{std.proofs.lemmas.Bool.cases_Bool, session_dictionary.specs.Order.EachPair}
use Rattle.std.proofs.lemmas.List.Elements.{All-append, All-cons, All-filter, All-get_or, All-head}
use Rattle.std.proofs.lemmas.List.Elements.{All-nil, All-tail, All-take}

-- what holds of all holds of a front and of the last
pub all_front : {A : Type 0} (P : A → Type 0) (xs ys : List A) → All P (xs ++ ys) → All P xs
all_front P [] ys all = All-nil P
all_front P (x ∷ xs) ys all =
    All-cons P x xs (All-head P x (xs ++ ys) all) (all_front P xs ys (All-tail P x (xs ++ ys) all))

pub all_last : {A : Type 0} (P : A → Type 0) (xs : List A) (y : A) → All P (xs ++ y ∷ []) → P y
all_last P [] y all = All-head P y [] all
all_last P (x ∷ xs) y all = all_last P xs y (All-tail P x (xs ++ y ∷ []) all)

-- what holds of all that pass a test
pub all_passing : {A : Type 0} (P : A → Type 0) (test : A → Bool) (xs : List A)
    → All P (filter test xs) → All (λ x. test x ≡ true → P x) xs
all_passing P test [] all = All-nil (λ x. test x ≡ true → P x)
all_passing P test (x ∷ xs) all =
    elim (cases_Bool (test x)) [
      | inl passes ↦
          let kept : All P (x ∷ filter test xs) = rw passes at all in
          All-cons (λ y. test y ≡ true → P y) x xs (λ _. All-head P x (filter test xs) kept)
          (all_passing P test xs (All-tail P x (filter test xs) kept))
      | inr fails ↦
          let kept : All P (filter test xs) = rw fails at all in
          All-cons (λ y. test y ≡ true → P y) x xs (λ e. absurd (cc (fails, e)))
          (all_passing P test xs kept)
    ]

-- a front that passes is the front of what passes
pub take-filter : {A : Type 0} (test : A → Bool) (xs : List A) (n : ℕ)
    → All (λ x. test x ≡ true) (take n xs) → take n (filter test xs) ≡ take n xs
take-filter test xs zero all = refl
take-filter test [] (suc n) all = refl
take-filter test (x ∷ xs) (suc n) all =
    rw (All-head (λ y. test y ≡ true) x (take n xs) all)
    (ap (λ ys. x ∷ ys)
    (take-filter test xs n (All-tail (λ y. test y ≡ true) x (take n xs) all)))

pub pairs_turn : {A : Type 0} (P : A → Type 0) (R S : A → A → Type 0)
    → ((x y : A) → P x → P y → R x y → S x y) → (xs : List A) → All P xs → EachPair R xs
    → EachPair S xs
pairs_turn P R S turn [] all pairs = tt
pairs_turn P R S turn (x ∷ xs) all pairs =
    let head = All-head P x xs all in
    let tail = All-tail P x xs all in (
      (λ k d h. turn x (get_or xs k d) head (All-get_or P xs k d h tail) (pairs.0 k d h)),
      pairs_turn P R S turn xs tail pairs.1,
    )

module _ {A : Type 0} (R : A → A → Type 0) where
  pub pairs-filter : (test : A → Bool) (xs : List A) → EachPair R xs → EachPair R (filter test xs)
  pairs-filter test [] pairs = tt
  pairs-filter test (x ∷ xs) pairs =
      elim (cases_Bool (test x)) [
        | inl passes ↦ rw passes (All-filter test (R x) xs pairs.0, pairs-filter test xs pairs.1)
        | inr fails ↦ rw fails (pairs-filter test xs pairs.1)
      ]

  pub pairs-append : (xs ys : List A) → EachPair R xs → EachPair R ys → All (λ x. All (R x) ys) xs
      → EachPair R (xs ++ ys)
  pairs-append [] ys first second across = second
  pairs-append (x ∷ xs) ys first second across =
      let head = All-head (λ y. All (R y) ys) x xs across in
      let tail = All-tail (λ y. All (R y) ys) x xs across in
      (All-append (R x) xs ys first.0 head, pairs-append xs ys first.1 second tail)

  pub pairs-push : (xs : List A) (y : A) → EachPair R xs → All (λ x. R x y) xs
      → EachPair R (xs ++ y ∷ [])
  pairs-push xs y pairs last =
      pairs-append xs (y ∷ []) pairs (All-nil (R y), tt)
      (λ k d h. All-cons (R (get_or xs k d)) y [] (last k d h) (All-nil (R (get_or xs k d))))

  pub pairs-take : (n : ℕ) (xs : List A) → EachPair R xs → EachPair R (take n xs)
  pairs-take zero xs pairs = tt
  pairs-take (suc n) [] pairs = tt
  pairs-take (suc n) (x ∷ xs) pairs = (All-take (R x) n xs pairs.0, pairs-take n xs pairs.1)

  pub pairs-drop : (n : ℕ) (xs : List A) → EachPair R xs → EachPair R (drop n xs)
  pairs-drop zero xs pairs = pairs
  pairs-drop (suc n) [] pairs = tt
  pairs-drop (suc n) (x ∷ xs) pairs = pairs-drop n xs pairs.1

  pub pair_at : (xs : List A) (i j : ℕ) (d : A) → i < j → j < length xs → EachPair R xs
      → R (get_or xs i d) (get_or xs j d)
  pair_at [] i j d less within pairs = absurd (omega arith)
  pair_at (x ∷ xs) i zero d less within pairs = absurd (omega arith)
  pair_at (x ∷ xs) zero (suc j) d less within pairs = pairs.0 j d (omega arith)
  pair_at (x ∷ xs) (suc i) (suc j) d less within pairs =
      pair_at xs i j d (omega arith) (omega arith) pairs.1

  pub pairs_from : (xs : List A) → AllPairs R xs → EachPair R xs
  pairs_from [] all = tt
  pairs_from (x ∷ xs) all =
      let rest : AllPairs R xs =
      λ i j d less within. all (suc i) (suc j) d (omega arith) (omega arith) in
      ((λ k d h. all 0 (suc k) d (omega arith) (omega arith)), pairs_from xs rest)
