-- Numbers and ranges.
use Rattle.std.proofs.Common.{◌≡◌, ℕ, zero, suc, ◌+◌, ◌-◌, ◌<◌, ◌≤◌, ◌⊎◌, Bool, true, false, ◌&&◌, ◌||◌}
use Rattle.std.proofs.Common.{List, [], ◌∷◌, ◌++◌, length, is_none, is_some, nat_le, nat_lt, Some, None, Option}
use Rattle.std.proofs.Common.{inl, inr, refl, sym, ap, ◌∙◌, subst, arith, if◌then◌else◌}
use Rattle.std.proofs.lemmas.Bool.{cases_lt, le-leb, le-ltb, leb-true, ltb-false}
use Rattle.nbfx_values.specs.declared.content.Item.{Item}
use Rattle.reliable_sequence.specs.declared.ranges.Range.{Range}
use Rattle.reliable_sequence.specs.Received.{place_of}
use Rattle.reliable_sequence.specs.Ranges.{begun_with, Below, ended, first_above, is_in, is_within, range, rise_from, runs}
use Rattle.reliable_sequence.specs.{Sent.without, Sent.without_all, Slots.body_at, Slots.Slots}
use Rattle.reliable_sequence.proofs.PlaceFacts.{freed_at-within, free_at-freed, kept_at-freed}
use Rattle.reliable_sequence.proofs.SlotFacts.{length-freed}

pub both-true : (a b : Bool) → a && b ≡ true → (a ≡ true) × (b ≡ true)
both-true true true e = (refl, refl)
both-true true false e = cc
both-true false b e = cc

pub either-true : (a b : Bool) → a || b ≡ true → (a ≡ true) ⊎ (b ≡ true)
either-true true b e = inl refl
either-true false b e = inr e

pub either-false : (a b : Bool) → a || b ≡ false → (a ≡ false) × (b ≡ false)
either-false true b e = cc
either-false false b e = (refl, e)

pub or-true : (a b : Bool) → b ≡ true → a || b ≡ true
or-true true b e = refl
or-true false b e = e

pub is_none_of : {X : Type 0} (o : Option X) → is_some o ≡ false → o ≡ None
is_none_of None e = refl
is_none_of (Some x) e = cc

pub none_of_is_none : {X : Type 0} (o : Option X) → is_none o ≡ true → o ≡ None
none_of_is_none None e = refl
none_of_is_none (Some x) e = cc

-- a number lies in a range
pub within-true : (number : ℕ) (r : Range) → r.lower ≤ number → number ≤ r.upper
    → is_within number r ≡ true
within-true number r low high = rw (le-leb r.lower number low, le-leb number r.upper high) refl

pub within-bounds : (number : ℕ) (r : Range) → is_within number r ≡ true
    → (r.lower ≤ number) × (number ≤ r.upper)
within-bounds number r e =
    let both = both-true (nat_le r.lower number) (nat_le number r.upper) e in
    (leb-true r.lower number both.0, leb-true number r.upper both.1)

in-first : (r : Range) (more : List Range) (number : ℕ) → is_within number r ≡ true
    → is_in (r ∷ more) number ≡ true
in-first r more number e = rw e refl

in-more : (r : Range) (more : List Range) (number : ℕ) → is_in more number ≡ true
    → is_in (r ∷ more) number ≡ true
in-more r more number e = go (is_within number r)
  where
    go : (a : Bool) → a || is_in more number ≡ true
    go true = refl
    go false = e

-- what holds of the numbers of ranges holds where the places of the ranges are freed
abbrev pub FreeAre : (ℕ → Type 0) → ℕ → Slots → Type 0
FreeAre P front slots =
    (place : ℕ) → place < length slots → body_at slots place ≡ None → P (front + place + 1)

free-without : (P : ℕ → Type 0) (front : ℕ) (slots : Slots) (r : Range) → FreeAre P front slots
    → ((number : ℕ) → is_within number r ≡ true → P number) → FreeAre P front
    (without front slots r)
free-without P front slots r free within place below e =
    let long = length-freed slots (place_of front r.lower) (r.upper - front) in
    elim (free_at-freed slots (place_of front r.lower) (r.upper - front) place e) [
      | inl before ↦ free place (omega arith) before
      | inr bounds ↦
          let low = bounds.0 in
          let high = bounds.1 in
          within (front + place + 1)
          (within-true (front + place + 1) r (omega arith) (omega arith))
    ]

pub free-without_all : (P : ℕ → Type 0) (front : ℕ) (slots : Slots) (ranges : List Range)
    → FreeAre P front slots → ((number : ℕ) → is_in ranges number ≡ true → P number)
    → FreeAre P front (without_all front slots ranges)
free-without_all P front slots [] free within = free
free-without_all P front slots (r ∷ more) free within =
    free-without_all P front (without front slots r) more
    (free-without P front slots r free (λ number e. within number (in-first r more number e)))
    (λ number e. within number (in-more r more number e))

pub kept-without_all : (front : ℕ) (slots : Slots) (ranges : List Range) (place : ℕ)
    (body : List Item) → body_at (without_all front slots ranges) place ≡ Some body
    → body_at slots place ≡ Some body
kept-without_all front slots [] place body e = e
kept-without_all front slots (r ∷ more) place body e =
    kept_at-freed slots (place_of front r.lower) (r.upper - front) place body
    (kept-without_all front (without front slots r) more place body e)

pub below-more : (a b : ℕ) (ranges : List Range) → a ≤ b → Below a ranges → Below b ranges
below-more a b [] le below = tt
below-more a b (r ∷ more) le below =
    let first = below.0 in (omega arith, below-more a b more le below.1)

pub none_above : (number : ℕ) (ranges : List Range) → Below number ranges
    → first_above number ranges ≡ None
none_above number [] below = refl
none_above number (r ∷ more) below =
    rw (le-ltb number r.upper below.0) (none_above number more below.1)

in-append : (first more : List Range) (number : ℕ) → is_in (first ++ more) number ≡ true
    → (is_in first number ≡ true) ⊎ (is_in more number ≡ true)
in-append [] more number e = inr e
in-append (r ∷ first) more number e =
    elim (either-true (is_within number r) (is_in (first ++ more) number) e) [
      | inl here ↦ inl (in-first r first number here)
      | inr there ↦
          elim (in-append first more number there) [
            | inl early ↦ inl (in-more r first number early)
            | inr late ↦ inr late
          ]
    ]

below-append : (number : ℕ) (first more : List Range) → Below number first → Below number more
    → Below number (first ++ more)
below-append number [] more one two = two
below-append number (r ∷ first) more one two = (one.0, below-append number first more one.1 two)

-- what holds of the numbers of bodies, and of those of the range that has begun, holds of the
-- numbers in the ranges
abbrev pub BegunAre : (ℕ → Type 0) → Option ℕ → ℕ → Type 0
BegunAre P None before = Unit {0}
BegunAre P (Some lower) before = (number : ℕ) → lower ≤ number → number ≤ before → P number

abbrev pub BodiesAre : (ℕ → Type 0) → ℕ → Slots → Type 0
BodiesAre P before slots =
    (place : ℕ) (body : List Item) → body_at slots place ≡ Some body → P (before + place + 1)

later : (P : ℕ → Type 0) (before : ℕ) (slot : Option (List Item)) (more : Slots)
    → BodiesAre P before (slot ∷ more) → BodiesAre P (before + 1) more
later P before slot more all place body found =
    let same : before + suc place + 1 ≡ before + 1 + place + 1 = omega arith in
    subst P same (all (suc place) body found)

ended-are : (P : ℕ → Type 0) (begun : Option ℕ) (before : ℕ) → BegunAre P begun before
    → (number : ℕ) → is_in (ended begun before false) number ≡ true → P number
ended-are P None before all number e = cc
ended-are P (Some lower) before all number e =
    elim (either-true (is_within number (range lower before)) false e) [
      | inl within ↦
          let bounds = within-bounds number (range lower before) within in
          all number bounds.0 bounds.1
      | inr none ↦ cc
    ]

begun-more : (P : ℕ → Type 0) (begun : Option ℕ) (before : ℕ) → BegunAre P begun before
    → P (before + 1) → BegunAre P (begun_with begun (before + 1) true) (before + 1)
begun-more P None before all here = λ number low high.
    let same : before + 1 ≡ number = omega arith in subst P same here
begun-more P (Some lower) before all here = λ number low high.
    elim (cases_lt before number) [
      | inl above ↦ let same : before + 1 ≡ number = omega arith in subst P same here
      | inr most ↦ all number low most
    ]

not_ended : (begun : Option ℕ) (before : ℕ) → ended begun before true ≡ []
not_ended None before = refl
not_ended (Some lower) before = refl

pub runs-are : (P : ℕ → Type 0) (slots : Slots) (begun : Option ℕ) (before : ℕ)
    → BegunAre P begun before → BodiesAre P before slots
    → (number : ℕ) → is_in (runs begun before slots) number ≡ true → P number
runs-are P [] begun before started all number e = ended-are P begun before started number e
runs-are P (None ∷ more) begun before started all number e =
    elim (in-append (ended begun before false) (runs None (before + 1) more) number e) [
      | inl early ↦ ended-are P begun before started number early
      | inr late ↦ runs-are P more None (before + 1) tt (later P before None more all) number late
    ]
runs-are P (Some body ∷ more) begun before started all number e =
    let next = begun_with begun (before + 1) true in
    let same : before + zero + 1 ≡ before + 1 = omega arith in
    let here = subst P same (all zero body refl) in
    let rest = ap (λ (first : List Range). is_in (first ++ runs next (before + 1) more) number)
    (sym (not_ended begun before)) ∙ e in
    runs-are P more next (before + 1) (begun-more P begun before started here)
    (later P before (Some body) more all) number rest

ended-below : (begun : Option ℕ) (before number : ℕ) → before ≤ number
    → Below number (ended begun before false)
ended-below None before number le = tt
ended-below (Some lower) before number le = (le, tt)

pub runs-below : (slots : Slots) (begun : Option ℕ) (before number : ℕ)
    → before + length slots ≤ number → Below number (runs begun before slots)
runs-below [] begun before number le = ended-below begun before number (omega arith)
runs-below (None ∷ more) begun before number le =
    below-append number (ended begun before false) (runs None (before + 1) more)
    (ended-below begun before number (omega arith))
    (runs-below more None (before + 1) number (omega arith))
runs-below (Some body ∷ more) begun before number le =
    let next = begun_with begun (before + 1) true in
    rw (not_ended begun before) (runs-below more next (before + 1) number (omega arith))

-- the numbers of bodies, and of the range that has begun, are in the ranges
pub runs-begun : (slots : Slots) (lower before number : ℕ) → lower ≤ number → number ≤ before
    → is_in (runs (Some lower) before slots) number ≡ true
runs-begun [] lower before number low high =
    in-first (range lower before) [] number (within-true number (range lower before) low high)
runs-begun (None ∷ more) lower before number low high =
    in-first (range lower before) (runs None (before + 1) more) number
    (within-true number (range lower before) low high)
runs-begun (Some body ∷ more) lower before number low high =
    runs-begun more lower (before + 1) number low (omega arith)

in-behind : (first more : List Range) (number : ℕ) → is_in more number ≡ true
    → is_in (first ++ more) number ≡ true
in-behind [] more number e = e
in-behind (r ∷ first) more number e =
    in-more r (first ++ more) number (in-behind first more number e)

-- the range has begun at the number before a place, or below it
abbrev pub BegunBy : Option ℕ → ℕ → Type 0
BegunBy None before = Unit {0}
BegunBy (Some lower) before = lower ≤ before

pub runs-bodies : (slots : Slots) (begun : Option ℕ) (before place : ℕ) (body : List Item)
    → BegunBy begun before → body_at slots place ≡ Some body
    → is_in (runs begun before slots) (before + place + 1) ≡ true
runs-bodies [] begun before place body by found = cc
runs-bodies (None ∷ more) begun before zero body by found = cc
runs-bodies (None ∷ more) begun before (suc place) body by found =
    let same : before + 1 + place + 1 ≡ before + suc place + 1 = omega arith in
    ap (is_in (ended begun before false ++ runs None (before + 1) more)) (sym same)
    ∙ in-behind (ended begun before false) (runs None (before + 1) more) (before + 1 + place + 1)
    (runs-bodies more None (before + 1) place body tt found)
runs-bodies (Some here ∷ more) None before zero body by found =
    runs-begun more (before + 1) (before + 1) (before + zero + 1) (omega arith) (omega arith)
runs-bodies (Some here ∷ more) (Some lower) before zero body by found =
    runs-begun more lower (before + 1) (before + zero + 1) (omega arith) (omega arith)
runs-bodies (Some here ∷ more) None before (suc place) body by found =
    let same : before + 1 + place + 1 ≡ before + suc place + 1 = omega arith in
    ap (is_in (runs (Some (before + 1)) (before + 1) more)) (sym same)
    ∙ runs-bodies more (Some (before + 1)) (before + 1) place body (omega arith) found
runs-bodies (Some here ∷ more) (Some lower) before (suc place) body by found =
    let same : before + 1 + place + 1 ≡ before + suc place + 1 = omega arith in
    ap (is_in (runs (Some lower) (before + 1) more)) (sym same)
    ∙ runs-bodies more (Some lower) (before + 1) place body (omega arith) found

rise-first : (least : ℕ) (r : Range) (more : List Range) → least ≤ r.lower → r.lower ≤ r.upper
    → rise_from (r.upper + 2) more ≡ true → rise_from least (r ∷ more) ≡ true
rise-first least r more low high rest =
    rw (le-leb least r.lower low, le-leb r.lower r.upper high) rest

-- the lower end of the range that has begun, or of the first that may begin
abbrev pub StartsFrom : ℕ → Option ℕ → ℕ → Type 0
StartsFrom least None before = least ≤ before + 1
StartsFrom least (Some lower) before = (least ≤ lower) × (lower ≤ before)

pub runs-rise : (slots : Slots) (least : ℕ) (begun : Option ℕ) (before : ℕ)
    → StartsFrom least begun before → rise_from least (runs begun before slots) ≡ true
runs-rise [] least None before from = refl
runs-rise [] least (Some lower) before from =
    rise-first least (range lower before) [] from.0 from.1 refl
runs-rise (None ∷ more) least None before from =
    runs-rise more least None (before + 1) (omega arith)
runs-rise (None ∷ more) least (Some lower) before from =
    rise-first least (range lower before) (runs None (before + 1) more) from.0 from.1
    (runs-rise more (before + 2) None (before + 1) (omega arith))
runs-rise (Some body ∷ more) least None before from =
    runs-rise more least (Some (before + 1)) (before + 1) (from, omega arith)
runs-rise (Some body ∷ more) least (Some lower) before from =
    let below = from.1 in runs-rise more least (Some lower) (before + 1) (from.0, omega arith)

-- a place stays free, and is free where its number is in the ranges
pub stays-free : (front : ℕ) (slots : Slots) (ranges : List Range) (place : ℕ)
    → body_at slots place ≡ None → body_at (without_all front slots ranges) place ≡ None
stays-free front slots ranges place free = go (body_at (without_all front slots ranges) place) refl
  where
    go : (o : Option (List Item)) → body_at (without_all front slots ranges) place ≡ o → o ≡ None
    go None e = refl
    go (Some body) e = let kept = kept-without_all front slots ranges place body e in cc

pub free-in : (front : ℕ) (slots : Slots) (ranges : List Range) (place : ℕ)
    → is_in ranges (front + place + 1) ≡ true → body_at (without_all front slots ranges) place
    ≡ None
free-in front slots [] place e = cc
free-in front slots (r ∷ more) place e =
    elim (either-true (is_within (front + place + 1) r) (is_in more (front + place + 1)) e) [
      | inl here ↦
          let bounds = within-bounds (front + place + 1) r here in
          let low = bounds.0 in
          let high = bounds.1 in
          stays-free front (without front slots r) more place
          (freed_at-within slots (place_of front r.lower) (r.upper - front) place (omega arith)
          (omega arith))
      | inr there ↦ free-in front (without front slots r) more place there
    ]

-- the numbers of ranges of which none ends above a number
bound-first : (bound : ℕ) (r : Range) (more : List Range) (number : ℕ)
    → is_in (r ∷ more) number ≡ true → (is_in more number ≡ true → number ≤ bound)
    → r.upper ≤ bound → number ≤ bound
bound-first bound r more number e rest low =
    elim (either-true (is_within number r) (is_in more number) e) [
      | inl here ↦ let bounds = within-bounds number r here in let high = bounds.1 in omega arith
      | inr there ↦ rest there
    ]

pub in-bound : (bound : ℕ) (ranges : List Range) (number : ℕ) → first_above bound ranges ≡ None
    → is_in ranges number ≡ true → number ≤ bound
in-bound bound [] number none e = cc
in-bound bound (r ∷ more) number none e =
    go (nat_lt bound r.upper) refl none (in-bound bound more number)
  where
    go : (above : Bool) → nat_lt bound r.upper ≡ above
        → (if above then Some r.upper else first_above bound more) ≡ None
        → (first_above bound more ≡ None → is_in more number ≡ true → number ≤ bound)
        → number ≤ bound
    go true is found rest = cc
    go false is found rest =
        bound-first bound r more number e (rest found) (ltb-false bound r.upper is)

pub below-of : (bound : ℕ) (ranges : List Range) → first_above bound ranges ≡ None
    → Below bound ranges
below-of bound [] none = tt
below-of bound (r ∷ more) none = go (nat_lt bound r.upper) refl none (below-of bound more)
  where
    go : (above : Bool) → nat_lt bound r.upper ≡ above
        → (if above then Some r.upper else first_above bound more) ≡ None
        → (first_above bound more ≡ None → Below bound more) → Below bound (r ∷ more)
    go true is found rest = cc
    go false is found rest = (ltb-false bound r.upper is, rest found)
