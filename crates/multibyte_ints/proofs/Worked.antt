-- The definitions on literals.
use Rattle.std.proofs.Common.{◌≡◌, ℕ, List, ◌∷◌, [], map, refl, ◌-◌, ◌^◌}
use lib.Utf8.{encode}
use Rattle.std.specs.Str.{is_utf8, chars}
use Rattle.unit_streams.specs.Front.{Front, begun, whole, wrong}
use Rattle.multibyte_ints.specs.Integer.{shortest, shortest_within, value_of, int_at, int_ending_at}
use Rattle.multibyte_ints.specs.Text.{StringFault, string_at, text_behind, text_at, text_ending_at}
use Rattle.multibyte_ints.specs.Text.{string_bytes_of, too_long, bad_utf8}

-- a number, and its shortest spelling
abbrev Written : Type 0
Written = ℕ × List ℕ

abbrev AreShortest : List Written → Type 0
AreShortest rows = map (λ (r : Written). shortest r.0) rows ≡ map (λ (r : Written). r.1) rows

written : AreShortest (
    (0, 0 ∷ []) ∷
    (127, 0x7F ∷ []) ∷
    (128, 0x80 ∷ 0x01 ∷ []) ∷
    (2 ^ 31 - 1, 0xFF ∷ 0xFF ∷ 0xFF ∷ 0xFF ∷ 0x07 ∷ []) ∷
    [])
unfolding shortest shortest_within
written = refl

-- bytes, and the integer at their front
abbrev Integer : Type 0
Integer = List ℕ × Front ℕ (Unit {0})

abbrev AreIntegers : List Integer → Type 0
AreIntegers rows = map (λ (r : Integer). int_at r.0) rows ≡ map (λ (r : Integer). r.1) rows

integers : AreIntegers (
    (0xFF ∷ 0xFF ∷ 0xFF ∷ 0xFF ∷ 0x07 ∷ 9 ∷ [], whole (2 ^ 31 - 1) 5) ∷
    (0x80 ∷ 0x00 ∷ [], whole 0 2) ∷
    (0xFF ∷ 0xFF ∷ 0xFF ∷ 0xFF ∷ 0x08 ∷ [], wrong tt 5) ∷
    (0xFF ∷ 0xFF ∷ 0xFF ∷ 0xFF ∷ 0x80 ∷ [], wrong tt 5) ∷
    (0xFF ∷ 0xFF ∷ 0xFF ∷ 0xFF ∷ [], begun) ∷
    ([], begun) ∷
    [])
unfolding int_at int_ending_at value_of
integers = refl

-- a limit, bytes, and the string at their front; the second one that has begun is cut inside a
-- character
abbrev String : Type 0
String = ℕ × List ℕ × Front (List ℕ) StringFault

abbrev AreStrings : List String → Type 0
AreStrings rows = map (λ (r : String). string_at r.0 r.1) rows ≡ map (λ (r : String). r.2) rows

strings : AreStrings (
    (2, 0x02 ∷ 0x68 ∷ 0x69 ∷ 7 ∷ [], whole (0x68 ∷ 0x69 ∷ []) 3) ∷
    (1, 0x02 ∷ [], wrong too_long 1) ∷
    (9, 0x02 ∷ 0xC3 ∷ [], begun) ∷
    (9, 0x02 ∷ 0xC3 ∷ 0xA9 ∷ [], whole (0xC3 ∷ 0xA9 ∷ []) 3) ∷
    (9, 0x01 ∷ 0xC3 ∷ [], wrong bad_utf8 2) ∷
    [])
unfolding string_at text_behind text_at text_ending_at int_at int_ending_at value_of is_utf8 chars
    encode
strings = refl

hi : string_bytes_of (0x68 ∷ 0x69 ∷ []) ≡ 0x02 ∷ 0x68 ∷ 0x69 ∷ []
unfolding string_bytes_of shortest shortest_within
hi = refl
