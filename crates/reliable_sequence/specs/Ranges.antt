-- Ranges of numbers.
use Rattle.std.specs.Prelude.{ℕ, ◌+◌, ◌≤◌, ◌==◌, Bool, true, false, ◌&&◌, ◌||◌, List, [], ◌∷◌, ◌++◌}
use Rattle.std.specs.Prelude.{if◌then◌else◌, is_some, nat_le, nat_lt, Some, None, Option}
use Rattle.reliable_sequence.specs.declared.ranges.Range.{Range}
use Rattle.reliable_sequence.specs.Slots.{Slots}

abbrev pub range : (lower upper : ℕ) → Range
range lower upper = record { lower = lower; upper = upper }

-- whether a number lies in a range
abbrev pub is_within : ℕ → Range → Bool
is_within number r = nat_le r.lower number && nat_le number r.upper

-- whether it lies in one of some ranges
abbrev pub is_in : List Range → ℕ → Bool
is_in [] number = false
is_in (r ∷ more) number = is_within number r || is_in more number

-- whether ranges rise from a number on, and neither meet nor touch each other
abbrev pub rise_from : ℕ → List Range → Bool
rise_from least [] = true
rise_from least (r ∷ more) =
    nat_le least r.lower && (nat_le r.lower r.upper && rise_from (r.upper + 2) more)

-- no range ends above a number
abbrev pub Below : ℕ → List Range → Type 0
Below number [] = Unit {0}
Below number (r ∷ more) = (r.upper ≤ number) × Below number more

-- the first upper end that is above a number
abbrev pub first_above : ℕ → List Range → Option ℕ
first_above number [] = None
first_above number (r ∷ more) =
    if nat_lt number r.upper then Some r.upper else first_above number more

-- the range that ends in front of a place, where one has begun and the place is free, and this is
-- the number before the place's
abbrev pub ended : Option ℕ → ℕ → Bool → List Range
ended None before has_body = []
ended (Some lower) before true = []
ended (Some lower) before false = range lower before ∷ []

-- the lower end of the range that has begun behind a place of this number
abbrev pub begun_with : Option ℕ → ℕ → Bool → Option ℕ
begun_with begun number false = None
begun_with None number true = Some number
begun_with (Some lower) number true = Some lower

-- the ranges of the numbers whose places have a body, where this is the number before the first
-- place's, and a range has begun there at its lower end or not
abbrev pub runs : Option ℕ → ℕ → Slots → List Range
runs begun before [] = ended begun before false
runs begun before (slot ∷ more) =
    ended begun before (is_some slot)
    ++ runs (begun_with begun (before + 1) (is_some slot)) (before + 1) more

-- the lower end of the range that has begun in front of the numbers behind this one, where all up
-- to it are in the ranges
abbrev pub begun_at : ℕ → Option ℕ
begun_at number = if number == 0 then None else Some 1
