-- Numbers as words: in decimal digits without zeros in front, and in a fixed number of hexadecimal
-- digits.
use Rattle.std.specs.Prelude.{◌≡◌, ℕ, zero, suc, Bool, false, not, ◌&&◌, ◌||◌, List, [], ◌∷◌}
use Rattle.std.specs.Prelude.{length, ℤ, pos, negsuc, is_some, if◌then◌else◌, nat_lt, ◌==◌}
use Rattle.std.specs.Prelude.{slice_index, Some, None, Ok, Err, Option, Result, option_map}
use Rattle.std.specs.{Char.is_ascii_digit, Fmt.digits_onto, List.list_all}
use Rattle.std.specs.Int.{Width, byte_len, from_be_bytes, to_be_bytes}
use Rattle.std.specs.Str.Parse.{IsNumeral, digits_value}
use Rattle.hex.specs.Hex.{decode_of, decode_sized, encode_lower}
use Rattle.line_notation.specs.{Options.◌>>=◌, Quoted.digit_in}

-- the digits of a number, of which the first is 0 only where it is the only one
pub record IsNatural (n : ℕ) (word : List ℕ) : Type 0 where
  pub digits : IsNumeral 10 word
  pub no_zero_in_front : slice_index word 0 ≡ 48 → length word ≡ 1
  pub value : digits_value 10 word ≡ n

-- a minus stands only before digits of another number than 0
abbrev pub IsInteger : ℤ → List ℕ → Type 0
IsInteger (pos n) word = IsNatural n word
IsInteger (negsuc n) word = (digits : List ℕ) × (word ≡ 45 ∷ digits) × IsNatural (suc n) digits

-- a count as it is put, whatever its size: std's `decimal` has at most 64 digits
abbrev pub count_digits : ℕ → List ℕ
count_digits n = digits_onto (suc n) 10 false n []

-- the number that a word writes
abbrev pub has_zero_in_front : List ℕ → Bool
has_zero_in_front word = nat_lt 1 (length word) && slice_index word 0 == 48

abbrev pub is_natural : List ℕ → Bool
is_natural word = not (length word == 0 || has_zero_in_front word) && list_all is_ascii_digit word

abbrev pub natural_in : List ℕ → Option ℕ
natural_in word = if is_natural word then Some (digits_value 10 word) else None

-- a number that is less than 0 by so much
abbrev pub less_than_zero : ℕ → Option ℤ
less_than_zero zero = None
less_than_zero (suc n) = Some (negsuc n)

abbrev pub integer_in : List ℕ → Option ℤ
integer_in [] = None
integer_in (c ∷ more) =
    if c == 45 then (natural_in more >>= less_than_zero) else option_map pos (natural_in (c ∷ more))

-- all digits of a number of so many bits, the highest first
abbrev pub hexadecimal : Width → ℕ → List ℕ
hexadecimal w n = encode_lower (to_be_bytes w n)

abbrev pub ok : {A E : Type 0} → Result A E → Option A
ok (Ok a) = Some a
ok (Err e) = None

-- the bytes that hexadecimal digits write, two digits a byte, and where they are so many
abbrev pub are_digits : List ℕ → Bool
are_digits = list_all (λ c. is_some (digit_in c))

abbrev pub bytes_in : List ℕ → Option (List ℕ)
bytes_in word = if are_digits word then ok (decode_of word) else None

abbrev pub bytes_sized : ℕ → List ℕ → Option (List ℕ)
bytes_sized n word = if are_digits word then ok (decode_sized word n) else None

abbrev pub hexadecimal_in : Width → List ℕ → Option ℕ
hexadecimal_in w word = bytes_sized (byte_len w) word >>= λ bytes. Some (from_be_bytes w bytes)
