-- Bodies in a row of places, some of which are free.
use Rattle.std.specs.Prelude.{ℕ, zero, suc, Bool, true, List, [], ◌∷◌, is_some, Some, None, Option}
use Rattle.nbfx_values.specs.declared.content.Item.{Item}

-- the places, each with its body or None
abbrev pub Slots : Type 0
Slots = List (Option (List Item))

-- the body at a place
abbrev pub body_at : Slots → ℕ → Option (List Item)
body_at [] at = None
body_at (slot ∷ more) zero = slot
body_at (slot ∷ more) (suc at) = body_at more at

-- the places with this body at one of them: behind the last one, free places come before it
abbrev pub with_body : Slots → ℕ → List Item → Slots
with_body [] zero body = Some body ∷ []
with_body [] (suc at) body = None ∷ with_body [] at body
with_body (slot ∷ more) zero body = Some body ∷ more
with_body (slot ∷ more) (suc at) body = slot ∷ with_body more at body

-- the places, free from one up to another
abbrev pub freed : Slots → (from end : ℕ) → Slots
freed slots from zero = slots
freed [] from end = []
freed (slot ∷ more) zero (suc end) = None ∷ freed more zero end
freed (slot ∷ more) (suc from) (suc end) = slot ∷ freed more from end

-- how many places are free in front of the first that isn't
abbrev pub leading_free : Slots → ℕ
leading_free [] = 0
leading_free (None ∷ more) = suc (leading_free more)
leading_free (Some body ∷ more) = 0

-- how many places are free
abbrev pub free_count : Slots → ℕ
free_count [] = 0
free_count (None ∷ more) = suc (free_count more)
free_count (Some body ∷ more) = free_count more

-- whether the last place has a body, where there is a place
abbrev pub ends_with_body : Slots → Bool
ends_with_body [] = true
ends_with_body (slot ∷ []) = is_some slot
ends_with_body (slot ∷ next ∷ more) = ends_with_body (next ∷ more)
