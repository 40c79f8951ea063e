-- Bodies in places.
use Rattle.std.proofs.Common.{Bool, true, false, cond, drop, is_some, min, max, IsTrue, inl, inr}
use Rattle.std.proofs.lemmas.Bool.{cases_lt}
use Rattle.std.proofs.Common.{◌≡◌, ℕ, zero, suc, ◌+◌, ◌<◌, ◌≤◌, List, [], ◌∷◌, ◌++◌, length, get_or, set, replicate, Some, None, Option, sym, refl, ap, arith, ◌∙◌, add-one}
use Rattle.nbfx_values.specs.declared.content.Item.{Item}
use Rattle.reliable_sequence.specs.Slots.{body_at, ends_with_body, free_count, freed, leading_free, Slots, with_body}

-- what stands at a place
pub body_at_read : (slots : Slots) (at : ℕ) (slot : Option (List Item)) → at < length slots
    → slot ≡ get_or slots at slot → body_at slots at ≡ slot
body_at_read [] at slot within e = absurd (omega arith)
body_at_read (first ∷ more) zero slot within e = sym e
body_at_read (first ∷ more) (suc at) slot within e = body_at_read more at slot (omega arith) e

pub body_at_past : (slots : Slots) (at : ℕ) → length slots ≤ at → body_at slots at ≡ None
body_at_past [] at past = refl
body_at_past (first ∷ more) zero past = absurd (omega arith)
body_at_past (first ∷ more) (suc at) past = body_at_past more at (omega arith)

-- a body at a place among others, and behind them
pub with_body_within : (slots : Slots) (at : ℕ) (body : List Item) → at < length slots
    → with_body slots at body ≡ set slots at (Some body)
with_body_within [] at body within = absurd (omega arith)
with_body_within (first ∷ more) zero body within = refl
with_body_within (first ∷ more) (suc at) body within =
    ap (λ rest. first ∷ rest) (with_body_within more at body (omega arith))

with_body_alone : (at : ℕ) (body : List Item)
    → with_body [] at body ≡ replicate at None ++ Some body ∷ []
with_body_alone zero body = refl
with_body_alone (suc at) body = ap (λ rest. None ∷ rest) (with_body_alone at body)

pub with_body_behind : (slots : Slots) (at free : ℕ) (body : List Item) → length slots + free ≡ at
    → with_body slots at body ≡ slots ++ replicate free None ++ Some body ∷ []
with_body_behind [] at free body e =
    let same : at ≡ free = omega arith in rw same (with_body_alone free body)
with_body_behind (first ∷ more) zero free body e = absurd (omega arith)
with_body_behind (first ∷ more) (suc at) free body e =
    ap (λ rest. first ∷ rest) (with_body_behind more at free body (omega arith))

-- places that are free from one up to another
pub length-freed : (slots : Slots) (from end : ℕ) → length (freed slots from end) ≡ length slots
length-freed slots from zero = refl
length-freed [] from (suc end) = refl
length-freed (slot ∷ more) zero (suc end) = ap suc (length-freed more zero end)
length-freed (slot ∷ more) (suc from) (suc end) = ap suc (length-freed more from end)

pub freed_none : (slots : Slots) (from end : ℕ) → end ≤ from → freed slots from end ≡ slots
freed_none slots from zero none = refl
freed_none [] from (suc end) none = refl
freed_none (slot ∷ more) zero (suc end) none = absurd (omega arith)
freed_none (slot ∷ more) (suc from) (suc end) none =
    ap (λ rest. slot ∷ rest) (freed_none more from end (omega arith))

freed_suc : (slots : Slots) (from at : ℕ) → from ≤ at → at < length slots
    → freed slots from (suc at) ≡ set (freed slots from at) at None
freed_suc [] from at le within = absurd (omega arith)
freed_suc (slot ∷ more) zero zero le within = refl
freed_suc (slot ∷ more) zero (suc at) le within =
    ap (λ rest. None ∷ rest) (freed_suc more zero at (omega arith) (omega arith))
freed_suc (slot ∷ more) (suc from) zero le within = absurd (omega arith)
freed_suc (slot ∷ more) (suc from) (suc at) le within =
    ap (λ rest. slot ∷ rest) (freed_suc more from at (omega arith) (omega arith))

pub freed_more : (slots : Slots) (from at : ℕ) → from ≤ at → at < length slots
    → freed slots from (at + 1) ≡ set (freed slots from at) at None
freed_more slots from at le within = rw add-one (freed_suc slots from at le within)

freed_min : (slots : Slots) (from end : ℕ) → length slots ≤ end
    → freed slots from (length slots) ≡ freed slots from end
freed_min [] from zero le = refl
freed_min [] from (suc end) le = refl
freed_min (slot ∷ more) from zero le = absurd (omega arith)
freed_min (slot ∷ more) zero (suc end) le =
    ap (λ rest. None ∷ rest) (freed_min more zero end (omega arith))
freed_min (slot ∷ more) (suc from) (suc end) le =
    ap (λ rest. slot ∷ rest) (freed_min more from end (omega arith))

-- an end behind the last place is as good as that place's
pub freed_to_end : (slots : Slots) (from end : ℕ)
    → freed slots from (min end (length slots)) ≡ freed slots from end
freed_to_end slots from end =
    elim (cases_lt end (length slots)) [
      | inl less ↦
          let same : min end (length slots) ≡ end = omega arith in ap (freed slots from) same
      | inr most ↦
          let same : min end (length slots) ≡ length slots = omega arith in
          ap (freed slots from) same ∙ freed_min slots from end (omega arith)
    ]

-- the places from one on
pub places_from : (slots : Slots) (at : ℕ) → at < length slots
    → drop at slots ≡ body_at slots at ∷ drop (suc at) slots
places_from [] at within = absurd (omega arith)
places_from (slot ∷ more) zero within = refl
places_from (slot ∷ more) (suc at) within = places_from more at (omega arith)

-- a place, and those behind it that are free
free_count_with : (slot : Option (List Item)) (more : Slots) (has_body : Bool)
    → has_body ≡ is_some slot
    → free_count (slot ∷ more) ≡ cond has_body (free_count more) (suc (free_count more))
free_count_with None more has_body e = rw e refl
free_count_with (Some body) more has_body e = rw e refl

-- how many are free, counted as far as a place, and one further
pub free_count_more : (slots : Slots) (at count next : ℕ) (has_body : Bool) → at < length slots
    → has_body ≡ is_some (body_at slots at) → next ≡ cond has_body count (suc count)
    → count + free_count (drop at slots) ≡ free_count slots
    → next + free_count (drop (at + 1) slots) ≡ free_count slots
free_count_more slots at count next has_body within e same all =
    let rest = drop (suc at) slots in
    let this = ap free_count (places_from slots at within)
    ∙ free_count_with (body_at slots at) rest has_body e in
    rw add-one (counted has_body same this)
  where
    counted : (has : Bool) → next ≡ cond has count (suc count)
        → free_count (drop at slots)
        ≡ cond has (free_count (drop (suc at) slots)) (suc (free_count (drop (suc at) slots)))
        → next + free_count (drop (suc at) slots) ≡ free_count slots
    counted true same this = omega arith
    counted false same this = omega arith

pub free_count-le : (slots : Slots) → free_count slots ≤ length slots
free_count-le [] = omega arith
free_count-le (None ∷ more) = let rest = free_count-le more in omega arith
free_count-le (Some body ∷ more) = let rest = free_count-le more in omega arith

pub leading_free-le : (slots : Slots) → leading_free slots ≤ length slots
leading_free-le [] = omega arith
leading_free-le (None ∷ more) = let rest = leading_free-le more in omega arith
leading_free-le (Some body ∷ more) = omega arith

pub leading_free_more : (slots : Slots) → 0 < length slots → is_some (body_at slots 0) ≡ false
    → leading_free slots ≡ suc (leading_free (drop 1 slots))
leading_free_more [] within free = absurd (omega arith)
leading_free_more (None ∷ more) within free = refl
leading_free_more (Some body ∷ more) within free = cc

pub leading_free_none : (slots : Slots) → is_some (body_at slots 0) ≡ true → leading_free slots ≡ 0
leading_free_none [] taken = refl
leading_free_none (None ∷ more) taken = cc
leading_free_none (Some body ∷ more) taken = refl

-- with a body at a place
pub length-with_body : (slots : Slots) (at : ℕ) (body : List Item)
    → length (with_body slots at body) ≡ max (length slots) (suc at)
length-with_body [] zero body = refl
length-with_body [] (suc at) body = let more = length-with_body [] at body in omega arith
length-with_body (slot ∷ more) zero body = omega arith
length-with_body (slot ∷ more) (suc at) body =
    let rest = length-with_body more at body in omega arith

ends-behind : (slot : Option (List Item)) (more : Slots) → 0 < length more
    → ends_with_body (slot ∷ more) ≡ ends_with_body more
ends-behind slot [] within = absurd (omega arith)
ends-behind slot (next ∷ more) within = refl

pub ends-with_body : (slots : Slots) (at : ℕ) (body : List Item) → IsTrue (ends_with_body slots)
    → IsTrue (ends_with_body (with_body slots at body))
ends-with_body [] zero body ends = refl
ends-with_body [] (suc at) body ends =
    let long = length-with_body [] at body in
    rw (ends-behind None (with_body [] at body) (omega arith)) (ends-with_body [] at body refl)
ends-with_body (slot ∷ []) zero body ends = refl
ends-with_body (slot ∷ next ∷ more) zero body ends = ends
ends-with_body (slot ∷ []) (suc at) body ends =
    let long = length-with_body [] at body in
    rw (ends-behind slot (with_body [] at body) (omega arith)) (ends-with_body [] at body refl)
ends-with_body (slot ∷ next ∷ more) (suc at) body ends =
    let long = length-with_body (next ∷ more) at body in
    rw (ends-behind slot (with_body (next ∷ more) at body) (omega arith))
    (ends-with_body (next ∷ more) at body ends)
