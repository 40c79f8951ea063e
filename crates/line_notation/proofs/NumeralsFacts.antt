-- Numbers out of words.
use Rattle.std.proofs.Common.{◌≡◌, ℕ, ◌^◌, ◌<◌, ◌≤◌, Bool, true, false, not, ◌&&◌, ◌||◌, ◌⊎◌, List}
use Rattle.std.proofs.Common.{[], ◌∷◌, length, nat_le, ◌==◌, Some, Err, IsUtf8, Result, sym, refl}
use Rattle.std.proofs.Common.{ap, ◌∙◌, inl, inr, arith}
use Rattle.std.proofs.lemmas.{Bool.and_parts, Bool.cases_lt, Bool.lt-leb, Fmt.IsAscii-from_digits}
use Rattle.std.proofs.lemmas.Str.{IsUtf8-from_ascii, Parse.tells_all_ascii_digits}
use Rattle.std.proofs.lemmas.Str.Parse.{IsNumeralModel, numerals_by_value, parse_digits}
use Rattle.std.specs.{Char.is_ascii_digit, List.list_all}
use Rattle.std.specs.Str.{all_ascii_digits, Parse.ParsesUnsigned, Parse.digits_value}
use Rattle.line_notation.specs.declared.reader.LineKind.TheVariants.{OutOfRange}
use Rattle.line_notation.specs.Numerals.{has_zero_in_front, is_natural}
use Rattle.line_notation.specs.Parts.{natural_up_to}

-- a word's digits, by std's words
pub all-digits : (word : List ℕ) → list_all is_ascii_digit word ≡ all_ascii_digits word
all-digits [] = refl
all-digits (c ∷ word) = ap (λ t. is_ascii_digit c && t) (all-digits word)

pub own : IsNumeralModel (λ word. all_ascii_digits word ≡ true) (digits_value 10)
own = numerals_by_value (λ word. all_ascii_digits word ≡ true) tells_all_ascii_digits

pub record AreDigits (word : List ℕ) : Type 0 where
  pub some : (length word == 0 || has_zero_in_front word) ≡ false
  pub digits : all_ascii_digits word ≡ true

pub natural_parts : (word : List ℕ) → is_natural word ≡ true → AreDigits word
natural_parts word h =
    let p = and_parts (not (length word == 0 || has_zero_in_front word))
    (list_all is_ascii_digit word) h in
    record {
      some = negated (length word == 0 || has_zero_in_front word) p.0;
      digits = sym
          (all-digits word) ∙ p.1;
    }
  where
    negated : (t : Bool) → not t ≡ true → t ≡ false
    negated true e = absurd cc
    negated false e = refl

pub natural-text : (word : List ℕ) → is_natural word ≡ true → IsUtf8 word
natural-text word h = IsUtf8-from_ascii word
    (IsAscii-from_digits word (own.to word (natural_parts word h).digits))

-- digits of too great a number
natural-kept : (most : ℕ) (word : List ℕ) → is_natural word ≡ true → most < digits_value 10 word
    → natural_up_to most word ≡ Some (Err OutOfRange)
natural-kept most word h greater =
    let over : nat_le (digits_value 10 word) most ≡ false = lt-leb (digits_value 10 word) most
    greater in
    rw (h, over) refl

-- what std refuses of digits is too great
pub natural-over : {E : Type 0} (most : ℕ) (word : List ℕ) (r : Result ℕ E) (e : E) → r ≡ Err e
    → most < 2 ^ 127 → is_natural word ≡ true → ParsesUnsigned 128 10 word r
    → natural_up_to most word ≡ Some (Err OutOfRange)
natural-over most word r e is small h parsed =
    let refused = rw is at (parse_digits own 128 word r parsed (natural_parts word h).digits) in
    let some : 0 < length word = some_of word (natural_parts word h).some in
    let beyond : 2 ^ 128 ≤ digits_value 10 word = by_cases refused some
    (cases_lt (digits_value 10 word) (2 ^ 128)) in
    natural-kept most word h (omega arith)
  where
    some_of : (word : List ℕ) → (length word == 0 || has_zero_in_front word) ≡ false → 0
        < length word
    some_of [] e = absurd cc
    some_of (c ∷ word) e = omega arith

    by_cases : ((0 < length word) × (digits_value 10 word < 2 ^ 128) → ⊥) → 0 < length word
        → (digits_value 10 word < 2 ^ 128) ⊎ (2 ^ 128 ≤ digits_value 10 word)
        → 2 ^ 128 ≤ digits_value 10 word
    by_cases f some (inl below) = absurd (f (some, below))
    by_cases f some (inr beyond) = beyond
