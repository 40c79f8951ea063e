-- What stands at the places of slots that grow, are freed or are cut.
use Rattle.std.proofs.Common.{◌≡◌, ◌≢◌, ℕ, zero, suc, ◌+◌, ◌<◌, ◌≤◌, ◌⊎◌, List, [], ◌∷◌, ◌++◌}
use Rattle.std.proofs.Common.{length, drop, slice_get, Some, None, inl, inr, refl, ap, arith}
use Rattle.nbfx_values.specs.declared.content.Item.{Item}
use Rattle.reliable_sequence.specs.Slots.{body_at, free_count, freed, leading_free, Slots, with_body}

pub body_at-with_body_same : (slots : Slots) (at : ℕ) (body : List Item)
    → body_at (with_body slots at body) at ≡ Some body
body_at-with_body_same [] zero body = refl
body_at-with_body_same [] (suc at) body = body_at-with_body_same [] at body
body_at-with_body_same (slot ∷ more) zero body = refl
body_at-with_body_same (slot ∷ more) (suc at) body = body_at-with_body_same more at body

pub body_at-with_body_other : (slots : Slots) (at : ℕ) (body : List Item) (i : ℕ) → i ≢ at
    → body_at (with_body slots at body) i ≡ body_at slots i
body_at-with_body_other [] zero body zero other = absurd (other refl)
body_at-with_body_other [] zero body (suc i) other = refl
body_at-with_body_other [] (suc at) body zero other = refl
body_at-with_body_other [] (suc at) body (suc i) other =
    body_at-with_body_other [] at body i (λ e. other (ap suc e))
body_at-with_body_other (slot ∷ more) zero body zero other = absurd (other refl)
body_at-with_body_other (slot ∷ more) zero body (suc i) other = refl
body_at-with_body_other (slot ∷ more) (suc at) body zero other = refl
body_at-with_body_other (slot ∷ more) (suc at) body (suc i) other =
    body_at-with_body_other more at body i (λ e. other (ap suc e))

-- one more body behind the others
pub body_at-push : (slots : Slots) (body : List Item) (i : ℕ) (found : List Item)
    → body_at (slots ++ Some body ∷ []) i ≡ Some found
    → (body_at slots i ≡ Some found) ⊎ ((i ≡ length slots) × (body ≡ found))
body_at-push [] body zero found e = inr (refl, cc)
body_at-push [] body (suc i) found e = cc
body_at-push (slot ∷ more) body zero found e = inl e
body_at-push (slot ∷ more) body (suc i) found e =
    elim (body_at-push more body i found e) [
      | inl before ↦ inl before
      | inr last ↦ inr (ap suc last.0, last.1)
    ]

pub free_at-push : (slots : Slots) (body : List Item) (i : ℕ) → i < length slots + 1
    → body_at (slots ++ Some body ∷ []) i ≡ None
    → (i < length slots) × (body_at slots i ≡ None)
free_at-push [] body zero within e = cc
free_at-push [] body (suc i) within e = absurd (omega arith)
free_at-push (slot ∷ more) body zero within e = (omega arith, e)
free_at-push (slot ∷ more) body (suc i) within e =
    let rest = free_at-push more body i (omega arith) e in
    let below = rest.0 in (omega arith, rest.1)

-- places that are freed
pub kept_at-freed : (slots : Slots) (from end i : ℕ) (found : List Item)
    → body_at (freed slots from end) i ≡ Some found → body_at slots i ≡ Some found
kept_at-freed slots from zero i found e = e
kept_at-freed [] from (suc end) i found e = e
kept_at-freed (slot ∷ more) zero (suc end) zero found e = cc
kept_at-freed (slot ∷ more) zero (suc end) (suc i) found e = kept_at-freed more zero end i found e
kept_at-freed (slot ∷ more) (suc from) (suc end) zero found e = e
kept_at-freed (slot ∷ more) (suc from) (suc end) (suc i) found e =
    kept_at-freed more from end i found e

pub free_at-freed : (slots : Slots) (from end i : ℕ) → body_at (freed slots from end) i ≡ None
    → (body_at slots i ≡ None) ⊎ ((from ≤ i) × (i < end))
free_at-freed slots from zero i e = inl e
free_at-freed [] from (suc end) i e = inl e
free_at-freed (slot ∷ more) zero (suc end) zero e = inr (omega arith, omega arith)
free_at-freed (slot ∷ more) zero (suc end) (suc i) e =
    elim (free_at-freed more zero end i e) [
      | inl free ↦ inl free
      | inr within ↦ let low = within.0 in let high = within.1 in inr (omega arith, omega arith)
    ]
free_at-freed (slot ∷ more) (suc from) (suc end) zero e = inl e
free_at-freed (slot ∷ more) (suc from) (suc end) (suc i) e =
    elim (free_at-freed more from end i e) [
      | inl free ↦ inl free
      | inr within ↦ let low = within.0 in let high = within.1 in inr (omega arith, omega arith)
    ]

-- the places behind some
pub body_at-drop : (count : ℕ) (slots : Slots) (i : ℕ)
    → body_at (drop count slots) i ≡ body_at slots (count + i)
body_at-drop zero slots i = let same : 0 + i ≡ i = omega arith in rw same refl
body_at-drop (suc count) [] i = refl
body_at-drop (suc count) (slot ∷ more) i =
    let same : suc count + i ≡ suc (count + i) = omega arith in rw same (body_at-drop count more i)

-- those in front are free
pub free_in_front : (slots : Slots) (i : ℕ) → i < leading_free slots → body_at slots i ≡ None
free_in_front [] i within = refl
free_in_front (None ∷ more) zero within = refl
free_in_front (None ∷ more) (suc i) within = free_in_front more i (omega arith)
free_in_front (Some body ∷ more) i within = absurd (omega arith)

-- one more at the end of a list
pub slice_get-push : {X : Type 0} (xs : List X) (x : X) (i : ℕ) (found : X)
    → slice_get (xs ++ x ∷ []) i ≡ Some found
    → (slice_get xs i ≡ Some found) ⊎ ((i ≡ length xs) × (x ≡ found))
slice_get-push [] x zero found e = inr (refl, cc)
slice_get-push [] x (suc i) found e = cc
slice_get-push (y ∷ xs) x zero found e = inl e
slice_get-push (y ∷ xs) x (suc i) found e =
    elim (slice_get-push xs x i found e) [
      | inl before ↦ inl before
      | inr last ↦ inr (ap suc last.0, last.1)
    ]

pub slice_get-push_before : {X : Type 0} (xs : List X) (x : X) (i : ℕ) (found : X)
    → slice_get xs i ≡ Some found → slice_get (xs ++ x ∷ []) i ≡ Some found
slice_get-push_before [] x i found e = cc
slice_get-push_before (y ∷ xs) x zero found e = e
slice_get-push_before (y ∷ xs) x (suc i) found e = slice_get-push_before xs x i found e

pub slice_get-push_last : {X : Type 0} (xs : List X) (x : X)
    → slice_get (xs ++ x ∷ []) (length xs) ≡ Some x
slice_get-push_last [] x = refl
slice_get-push_last (y ∷ xs) x = slice_get-push_last xs x

pub body_at_within : (slots : Slots) (place : ℕ) (body : List Item)
    → body_at slots place ≡ Some body → place < length slots
body_at_within [] place body found = cc
body_at_within (slot ∷ more) zero body found = omega arith
body_at_within (slot ∷ more) (suc place) body found =
    let rest = body_at_within more place body found in omega arith

-- the first place that is left isn't free
pub leading_free-drop : (slots : Slots) → leading_free (drop (leading_free slots) slots) ≡ 0
leading_free-drop [] = refl
leading_free-drop (None ∷ more) = leading_free-drop more
leading_free-drop (Some body ∷ more) = refl

pub leading_free-push : (slots : Slots) (body : List Item) → leading_free slots ≡ 0
    → leading_free (slots ++ Some body ∷ []) ≡ 0
leading_free-push [] body none = refl
leading_free-push (None ∷ more) body none = absurd (omega arith)
leading_free-push (Some first ∷ more) body none = refl

pub free_count-push : (slots : Slots) (body : List Item)
    → free_count (slots ++ Some body ∷ []) ≡ free_count slots
free_count-push [] body = refl
free_count-push (None ∷ more) body = ap suc (free_count-push more body)
free_count-push (Some first ∷ more) body = free_count-push more body

pub freed_at-within : (slots : Slots) (from end i : ℕ) → from ≤ i → i < end
    → body_at (freed slots from end) i ≡ None
freed_at-within slots from zero i low high = absurd (omega arith)
freed_at-within [] from (suc end) i low high = refl
freed_at-within (slot ∷ more) zero (suc end) zero low high = refl
freed_at-within (slot ∷ more) zero (suc end) (suc i) low high =
    freed_at-within more zero end i (omega arith) (omega arith)
freed_at-within (slot ∷ more) (suc from) (suc end) zero low high = absurd (omega arith)
freed_at-within (slot ∷ more) (suc from) (suc end) (suc i) low high =
    freed_at-within more from end i (omega arith) (omega arith)
