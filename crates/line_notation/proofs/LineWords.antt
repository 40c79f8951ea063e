-- Each word of a line of a form is bytes without a space and a quote, or a text in quotes.
use Rattle.std.proofs.Common.{◌≡◌, ℕ, ◌+◌, ◌<◌, ◌≤◌, Bool, true, false, not, ◌&&◌, ◌⊎◌, List, []}
use Rattle.std.proofs.Common.{◌∷◌, ◌++◌, length, is_some, ◌==◌, Some, None, codes, Option, sym}
use Rattle.std.proofs.Common.{refl, ap, ◌∙◌, subst, inl, inr, arith, w32, w64, le-ltb, lt-ltb}
use Rattle.std.proofs.lemmas.Bool.{and_parts, cases_lt}
use Rattle.std.specs.{Fmt.digit_glyph, Int.Width, Int.byte_len, Int.to_be_bytes, List.list_all}
use Rattle.{hex.specs.Hex.encode_lower, nbfx_values.specs.Scalars.are_bytes}
use Rattle.nbfx_values.specs.declared.{content.ArrayKind.ArrayKind, scalars.Scalar.Scalar}
use Rattle.nbfx_values.specs.declared.scalars.Scalar.TheVariants.{Bytes, DateTime, Decimal, Double}
use Rattle.nbfx_values.specs.declared.scalars.Scalar.TheVariants.{Float, Number, QName, Text}
use Rattle.nbfx_values.specs.declared.scalars.Scalar.TheVariants.{TimeSpan, Truth, UniqueId, Uuid}
use Rattle.line_notation.specs.Forms.{array, array_kind_word, attr, close, comment, Form, IsForm}
use Rattle.line_notation.specs.Forms.{ns, start, text, values}
use Rattle.line_notation.specs.{Numerals.are_digits, Numerals.hexadecimal, Scalars.truth_word}
use Rattle.line_notation.specs.Quoted.{ArePieces, digit_in, is_plain, IsQuoted}
use Rattle.line_notation.specs.Scalars.{digits_in_quotes, IsScalar, letter_word, sign_word}
use Rattle.line_notation.specs.Values.{AreValues, how_many, list, no_more, one, Written}
use Rattle.line_notation.proofs.HexFacts.{encoded-digits, high-bytes}
use Rattle.line_notation.proofs.IdentifierFacts.{identifier-solid}
use Rattle.line_notation.proofs.NaturalFacts.{integer-solid, natural-solid}
use Rattle.line_notation.proofs.PiecesFacts.{is_digit, plain-pieces}
use Rattle.line_notation.proofs.SpacedFacts.{is_solid, solid}
use Rattle.nbfx_values.specs.declared.content.ArrayKind.TheVariants as arrays

abbrev pub IsWord : List ℕ → Type 0
IsWord word = (list_all is_solid word ≡ true) ⊎ ((bytes : List ℕ) × IsQuoted bytes word)

abbrev pub AreWords : List (List ℕ) → Type 0
AreWords [] = Unit {0}
AreWords (word ∷ words) = IsWord word × AreWords words

words-append : (first rest : List (List ℕ)) → AreWords first → AreWords rest
    → AreWords (first ++ rest)
words-append [] rest h k = k
words-append (word ∷ first) rest h k = (h.0, words-append first rest h.1 k)

-- hexadecimal digits
pub glyph-solid : (d : ℕ) → d < 16 → is_solid (digit_glyph false d) ≡ true
glyph-solid d small = go (cases_lt d 10)
  where
    go : (d < 10) ⊎ (10 ≤ d) → is_solid (digit_glyph false d) ≡ true
    go (inl low) = rw (lt-ltb d 10 low)
        (solid (48 + d) (omega arith) (omega arith) (λ e. omega (arith, e))
        (λ e. omega (arith, e, low)))
    go (inr high) = rw (le-ltb d 10 high)
        (solid (87 + d) (omega arith) (omega arith) (λ e. omega (arith, e, high))
        (λ e. omega (arith, e, high)))

digit-solid : (c : ℕ) → is_some (digit_in c) ≡ true → is_solid c ≡ true
digit-solid c h = go (digit_in c) refl h
  where
    go : (read : Option ℕ) → digit_in c ≡ read → is_some read ≡ true → is_solid c ≡ true
    go None e h = absurd cc
    go (Some d) e h = let i = is_digit c d e in ap is_solid i.glyph ∙ glyph-solid d i.small

digits-solid : (word : List ℕ) → are_digits word ≡ true → list_all is_solid word ≡ true
digits-solid [] h = refl
digits-solid (c ∷ word) h =
    let p = and_parts (is_some (digit_in c)) (are_digits word) h in
    rw (digit-solid c p.0, digits-solid word p.1) refl

digits-pieces : (word : List ℕ) → are_digits word ≡ true → ArePieces word word
digits-pieces [] h = refl
digits-pieces (c ∷ word) h =
    let p = and_parts (is_some (digit_in c)) (are_digits word) h in
    let q = and_parts (is_plain c) (not (c == 32)) (digit-solid c p.0) in
    plain-pieces c word word q.0 (digits-pieces word p.1)

hexadecimal-word : (w : Width) (n : ℕ) → IsWord (hexadecimal w n)
hexadecimal-word w n = inl
    (digits-solid (hexadecimal w n) (encoded-digits (to_be_bytes w n) (high-bytes (byte_len w) n)))

bytes-word : (bytes : List ℕ) → are_bytes bytes ≡ true → IsWord (digits_in_quotes bytes)
bytes-word bytes small = inr (
  encode_lower bytes,
  (
    encode_lower bytes,
    refl,
    digits-pieces (encode_lower bytes)
        (encoded-digits bytes small),
  ),
)

-- words of a choice
truth-word : (truth : Bool) → IsWord (truth_word truth)
truth-word true = inl refl
truth-word false = inl refl

sign-word : (negative : Bool) → IsWord (sign_word negative)
sign-word true = inl refl
sign-word false = inl refl

letter-word : (letter : ℕ) → letter ≤ 25 → IsWord (letter_word letter)
letter-word letter small =
    inl (ap (λ t. t && true) (solid (97 + letter) (omega arith) (omega arith)
    (λ e. omega (arith, e)) (λ e. omega (arith, e))))

kind-word : (kind : ArrayKind) → IsWord (array_kind_word kind)
kind-word arrays.Bool = inl refl
kind-word _ = inl refl

-- a value's words, and those of values
scalar-words : (s : Scalar) (words : List (List ℕ)) → IsScalar s words → AreWords words
scalar-words (Number n) words (word, e, h) = subst AreWords (sym e)
    (inl refl, (inl (integer-solid n word h), tt))
scalar-words (Truth truth) words e = subst AreWords (sym e) (inl refl, (truth-word truth, tt))
scalar-words (Float bits) words (small, e) = subst AreWords (sym e)
    (inl refl, (hexadecimal-word w32 bits, tt))
scalar-words (Double bits) words (small, e) = subst AreWords (sym e)
    (inl refl, (hexadecimal-word w64 bits, tt))
scalar-words (Decimal d) words (scale, magnitude, e, s, m) =
    subst AreWords (sym e) (
      inl refl,
      (
        inl (natural-solid d.scale scale s),
        (sign-word d.negative, (inl (natural-solid d.magnitude magnitude m), tt)),
      ),
    )
scalar-words (DateTime pattern) words (small, e) = subst AreWords (sym e)
    (inl refl, (hexadecimal-word w64 pattern, tt))
scalar-words (TimeSpan span) words (word, e, h) = subst AreWords (sym e)
    (inl refl, (inl (integer-solid span word h), tt))
scalar-words (Text bytes) words (word, e, h) = subst AreWords (sym e)
    (inl refl, (inr (bytes, h), tt))
scalar-words (Bytes bytes) words (small, e) = subst AreWords (sym e)
    (inl refl, (bytes-word bytes small, tt))
scalar-words (UniqueId bytes) words (valid, e) = subst AreWords (sym e)
    (inl refl, (inl (identifier-solid bytes), tt))
scalar-words (Uuid bytes) words (valid, e) = subst AreWords (sym e)
    (inl refl, (inl (identifier-solid bytes), tt))
scalar-words (QName letter name) words (small, word, e, h) = subst AreWords (sym e)
    (inl refl, (letter-word letter small, (inr (name, h), tt)))

values-words : (written : Written) (words : List (List ℕ)) → AreValues written words
    → AreWords words
values-words no_more words h = subst AreWords (sym h) tt
values-words (one s more) words (own, rest, e, is, h) = subst AreWords (sym e)
    (words-append own rest (scalar-words s own is) (values-words more rest h))
values-words (list within more) words (count, own, rest, e, n, h, k) =
    subst AreWords (sym e) (
      inl refl,
      (
        inl (natural-solid (how_many within) count n),
        words-append own rest
            (values-words within own h) (values-words more rest k),
      ),
    )

-- the words of a line of a form, of which there is one at least
pub record AreLineWords (words : List (List ℕ)) : Type 0 where
  pub some : 0 < length words
  pub are : AreWords words

of-words : (word : List ℕ) (rest words : List (List ℕ)) → words ≡ word ∷ rest
    → AreWords (word ∷ rest) → AreLineWords words
of-words word rest words e h = subst AreLineWords (sym e) (record { some = omega arith; are = h })

pub line-words : (form : Form) (words : List (List ℕ)) → IsForm form words → AreLineWords words
line-words (start prefix local) words (a, b, e, (q, r)) = of-words (codes "start") (a ∷ b ∷ [])
    words e (inl refl, (inr (prefix, q), (inr (local, r), tt)))
line-words (ns prefix uri) words (a, b, e, (q, r)) = of-words (codes "ns") (a ∷ b ∷ []) words e
    (inl refl, (inr (prefix, q), (inr (uri, r), tt)))
line-words (attr prefix local written) words (a, b, own, e, (q, r), h) =
    of-words (codes "attr") (a ∷ b ∷ own) words e
    (inl refl, (inr (prefix, q), (inr (local, r), values-words written own h.values)))
line-words (text written) words (own, e, h) = of-words (codes "text") own words e
    (inl refl, values-words written own h.values)
line-words (comment bytes) words (a, e, q) = of-words (codes "comment") (a ∷ []) words e
    (inl refl, (inr (bytes, q), tt))
line-words (array kind prefix local) words (a, b, e, (q, r)) =
    of-words (codes "array") (array_kind_word kind ∷ a ∷ b ∷ []) words e
    (inl refl, (kind-word kind, (inr (prefix, q), (inr (local, r), tt))))
line-words (values written) words (own, e, h) = of-words (codes "values") own words e
    (inl refl, values-words written own h.values)
line-words close words e = of-words (codes "close") [] words e (inl refl, tt)
