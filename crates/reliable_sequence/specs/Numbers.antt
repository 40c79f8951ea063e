-- Numbers as documents have them: decimal digits without a leading zero, from 1 to 2^63 - 1.
use Rattle.std.specs.Prelude.{ℕ, ◌+◌, ◌-◌, ◌*◌, ◌^◌, Bool, ◌&&◌, List, [], ◌∷◌, nat_le, nat_lt}
use Rattle.std.specs.Prelude.{if◌then◌else◌, Some, None, Option}

abbrev pub greatest_behind : ℕ
greatest_behind = 2 ^ 63

abbrev pub is_digit : ℕ → Bool
is_digit c = nat_le 48 c && nat_le c 57

abbrev pub with_digit : ℕ → ℕ → ℕ
with_digit n c = n * 10 + (c - 48)

-- a number with one digit more, if it is small enough
abbrev pub behind_digit : ℕ → ℕ → Option ℕ
behind_digit n c =
    if is_digit c && nat_lt (with_digit n c) greatest_behind then Some (with_digit n c) else None

-- the number that digits write behind others
abbrev pub number_behind : Option ℕ → List ℕ → Option ℕ
number_behind None digits = None
number_behind (Some n) [] = Some n
number_behind (Some n) (c ∷ more) = number_behind (behind_digit n c) more

-- the number that a text writes
abbrev pub number_in : List ℕ → Option ℕ
number_in [] = None
number_in (c ∷ more) = if nat_lt 48 c then number_behind (Some 0) (c ∷ more) else None
