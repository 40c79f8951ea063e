-- What holds of each document of a seed: it is one, and small.
use Rattle.std.proofs.Common.{◌≡◌, ℕ, zero, suc, ◌+◌, ◌-◌, ◌/◌, ◌%◌, ◌^◌, ◌<◌, ◌≤◌, true, List, []}
use Rattle.std.proofs.Common.{◌∷◌, length, pos, codes, IsAscii, decimal, refl, ap, ◌∙◌, arith}
use Rattle.std.proofs.Common.{length-append, le-ltb}
use Rattle.std.proofs.lemmas.Fmt.{IsAscii-decimal, length-decimal-le}
use Rattle.std.proofs.lemmas.Str.{IsAscii-append, IsUtf8-from_ascii, is_utf8-from_IsUtf8}
use Rattle.std.proofs.lemmas.Str.Ascii.{IsAscii-cons, IsAscii-nil}
use Rattle.std.specs.{List.list_all, List.repeat, Str.is_utf8}
use Rattle.nbfx_values.specs.declared.content.AttrItem.TheVariants.{Attr as AttrOn}
use Rattle.nbfx_values.specs.declared.scalars.Scalar.TheVariants.{Number, Text as TextOf}
use Rattle.nbfx_values.specs.{declared.scalars.Value.TheVariants.One, Scalars.is_number}
use Rattle.nbfx_values.specs.Documents.{element, IsDocument, no_more, text}
use Rattle.nbfx_values.specs.{Items.is_valid_item, Measures.content_of, Measures.depth_of}
use Rattle.session_generator.specs.Documents.{document, letters, root_name}

-- texts are UTF-8
pub ascii_utf8 : (bytes : List ℕ) → IsAscii bytes → is_utf8 bytes ≡ true
ascii_utf8 bytes ascii = is_utf8-from_IsUtf8 bytes (IsUtf8-from_ascii bytes ascii)

empty_utf8 : is_utf8 [] ≡ true
empty_utf8 = ascii_utf8 [] IsAscii-nil

letter_ascii : (b : ℕ) → b < 128 → IsAscii (b ∷ [])
letter_ascii b low = IsAscii-cons b [] low IsAscii-nil

pub letter_utf8 : (b : ℕ) → b < 128 → is_utf8 (b ∷ []) ≡ true
letter_utf8 b low = ascii_utf8 (b ∷ []) (letter_ascii b low)

root_utf8 : (d : ℕ) → is_utf8 (root_name d) ≡ true
root_utf8 d = ascii_utf8 (root_name d)
    (IsAscii-append (codes "n") (decimal (d % 50)) (letter_ascii 110 (omega arith))
    (IsAscii-decimal (d % 50) (omega arith)))

repeat_ascii : (n : ℕ) → IsAscii (repeat n (codes "x"))
repeat_ascii zero = IsAscii-nil
repeat_ascii (suc n) =
    IsAscii-append (codes "x") (repeat n (codes "x")) (letter_ascii 120 (omega arith))
    (repeat_ascii n)

letters_utf8 : (d : ℕ) → is_utf8 (letters d) ≡ true
letters_utf8 d = ascii_utf8 (letters d) (repeat_ascii (d / 64 % 300))

-- numbers may be written
number_valid : (n : ℕ) → n < 2 ^ 32 → is_number (pos n) ≡ true
number_valid n low = rw (le-ltb (2 ^ 64 - 1) n (omega arith)) refl

items_valid : (number d : ℕ) → number < 2 ^ 32 → d < 2 ^ 32
    → list_all is_valid_item (document number d) ≡ true
items_valid number d few low =
    rw (
      empty_utf8,
      root_utf8 d,
      letter_utf8 107 (omega arith),
      number_valid number few,
      number_valid d low,
      letter_utf8 116 (omega arith),
      letters_utf8 d,
    ) refl

pub is_document : (number d : ℕ) → number < 2 ^ 32 → d < 2 ^ 32 → IsDocument (document number d)
is_document number d few low = record {
  prefix = [];
  local = root_name d;
  attributes = AttrOn [] (codes "k") (One (Number (pos number))) ∷ [];
  children = text (One (Number (pos d)))
      (element [] (codes "t") [] (text (One (TextOf (letters d))) no_more) no_more);
  walked = refl;
  valid = items_valid number d few low;
}

-- they are small
pub root_length : (d : ℕ) → length (root_name d) ≤ 3
root_length d =
    let digits = length-decimal-le 2 (d % 50) (omega arith) (omega arith) (omega arith) in
    let n = length-append (codes "n") (decimal (d % 50)) in omega (arith, digits, n)

repeat_length : (n : ℕ) → length (repeat n (codes "x")) ≡ n
repeat_length zero = refl
repeat_length (suc n) =
    length-append (codes "x") (repeat n (codes "x")) ∙ ap (λ k. 1 + k) (repeat_length n) ∙ omega
    arith

pub letters_length : (d : ℕ) → length (letters d) < 300
letters_length d = let n = repeat_length (d / 64 % 300) in omega (arith, n)

pub depth_is : (number d : ℕ) → depth_of (document number d) ≡ 2
depth_is number d = refl

pub content_low : (number d : ℕ) → content_of (document number d) < 400
content_low number d =
    let root = root_length d in let text = letters_length d in omega (arith, root, text)
