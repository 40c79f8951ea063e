-- The ranges of acknowledgements, by their places among lists.
use Rattle.std.proofs.Common.{◌≡◌, ℕ, zero, suc, ◌+◌, ◌<◌, ◌⊎◌, List, [], ◌∷◌, ◌++◌, length, map, slice_get}
use Rattle.std.proofs.Common.{Some, None, Ok, Err, OnOk, OnErr, Result, inl, inr, refl, sym, ap}
use Rattle.std.proofs.Common.{◌∙◌, subst, arith, length-append}
use Rattle.std.proofs.lemmas.{List.map-append, Option.same_Some, Option.slice_get_within}
use Rattle.reliable_sequence.specs.declared.ranges.Range.{Range}
use Rattle.reliable_sequence.specs.Receipts.{AreBelow, ranges_at, ranges_or_none}
use Rattle.reliable_sequence.proofs.PlaceFacts.{slice_get-push_before}

within : (lists : List (List Range)) (place : ℕ) → place < length lists
    → slice_get lists place ≡ Some (ranges_at lists place)
within [] place low = absurd (omega arith)
within (first ∷ lists) zero low = refl
within (first ∷ lists) (suc place) low = within lists place (omega arith)

-- the list that an acknowledgement has
pub found : (lists : List (List Range)) (places : List ℕ) (at place : ℕ)
    → AreBelow (length lists) places → slice_get places at ≡ Some place
    → slice_get lists place ≡ slice_get (map (ranges_at lists) places) at
found lists [] at place below e = cc
found lists (first ∷ places) zero place below e =
    subst (λ (p : ℕ). slice_get lists p ≡ Some (ranges_at lists first)) (same_Some first place e)
    (within lists first below.0)
found lists (first ∷ places) (suc at) place below e = found lists places at place below.1 e

pub none : (lists : List (List Range)) (places : List ℕ) (at : ℕ) → slice_get places at ≡ None
    → slice_get (map (ranges_at lists) places) at ≡ None
none lists [] at e = refl
none lists (first ∷ places) zero e = cc
none lists (first ∷ places) (suc at) e = none lists places at e

-- one list more changes none
same-at : (lists : List (List Range)) (one : List Range) (place : ℕ) → place < length lists
    → ranges_at (lists ++ one ∷ []) place ≡ ranges_at lists place
same-at lists one place low =
    let there = within lists place low in
    ap ranges_or_none (slice_get-push_before lists one place (ranges_at lists place) there
    ∙ sym there)

same-after : (lists : List (List Range)) (one : List Range) (places : List ℕ)
    → AreBelow (length lists) places
    → map (ranges_at (lists ++ one ∷ [])) places ≡ map (ranges_at lists) places
same-after lists one [] below = refl
same-after lists one (place ∷ places) below =
    ap (λ (rs : List Range). rs ∷ map (ranges_at (lists ++ one ∷ [])) places)
    (same-at lists one place below.0)
    ∙ ap (λ (rest : List (List Range)). ranges_at lists place ∷ rest)
    (same-after lists one places below.1)

below-more : (a b : ℕ) (places : List ℕ) → a < b + 1 → AreBelow a places → AreBelow b places
below-more a b [] le below = tt
below-more a b (place ∷ places) le below =
    let first = below.0 in (omega arith, below-more a b places le below.1)

below-append : (n : ℕ) (places : List ℕ) (place : ℕ) → AreBelow n places → place < n
    → AreBelow n (places ++ place ∷ [])
below-append n [] place below low = (low, tt)
below-append n (first ∷ places) place below low = (below.0, below-append n places place below.1 low)

module _ (old new : List (List Range)) (one : List Range) (places : List ℕ)
    (grown : (new ≡ old) ⊎ (new ≡ old ++ one ∷ [])) (below : AreBelow (length old) places) where
  pub below-still : AreBelow (length new) places
  below-still =
      elim grown [
        | inl same ↦ subst (λ (ls : List (List Range)). AreBelow (length ls) places) (sym same)
            below
        | inr more ↦
            let long = ap length more ∙ length-append old (one ∷ []) in
            below-more (length old) (length new) places (omega arith) below
      ]

  same-still : map (ranges_at new) places ≡ map (ranges_at old) places
  same-still =
      elim grown [
        | inl same ↦ ap (λ (ls : List (List Range)). map (ranges_at ls) places) same
        | inr more ↦
            ap (λ (ls : List (List Range)). map (ranges_at ls) places) more
            ∙ same-after old one places below
      ]

  module _ (place : ℕ) (there : slice_get new place ≡ Some one) where
    pub one-more : map (ranges_at new) (places ++ place ∷ [])
        ≡ map (ranges_at old) places ++ one ∷ []
    one-more =
        map-append (ranges_at new) places (place ∷ [])
        ∙ ap (λ (l : List (List Range)). l ++ ranges_at new place ∷ []) same-still
        ∙ ap (λ o. map (ranges_at old) places ++ ranges_or_none o ∷ []) there

-- one place more, where there was memory for it
pub below-pushed : {A F : Type 0} (n : ℕ) (places pushed : List ℕ) (place : ℕ) (answer : Result A F)
    → OnOk answer (pushed ≡ places ++ place ∷ []) → OnErr answer (pushed ≡ places)
    → AreBelow n places → place < n → AreBelow n pushed
below-pushed n places pushed place (Ok a) is kept below low =
    subst (AreBelow n) (sym is) (below-append n places place below low)
below-pushed n places pushed place (Err f) is kept below low = subst (AreBelow n) (sym kept) below

pub sent-pushed : {A F : Type 0} (old new : List (List Range)) (one : List Range)
    (places pushed : List ℕ) (place : ℕ) (grown : (new ≡ old) ⊎ (new ≡ old ++ one ∷ []))
    → AreBelow (length old) places → slice_get new place ≡ Some one → (answer : Result A F)
    → OnOk answer (pushed ≡ places ++ place ∷ [])
    → OnOk answer (map (ranges_at new) pushed ≡ map (ranges_at old) places ++ one ∷ [])
sent-pushed old new one places pushed place grown below there (Ok a) is =
    ap (map (ranges_at new)) is ∙ one-more old new one places grown below place there
sent-pushed old new one places pushed place grown below there (Err f) is = is
