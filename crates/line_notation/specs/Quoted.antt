-- A text in quotes: as it is put, in every way that it may be written, and how it is read.
use Rattle.std.specs.Prelude.{◌≡◌, ℕ, ◌+◌, ◌-◌, ◌*◌, ◌/◌, ◌%◌, ◌<◌, Bool, false, not, ◌&&◌, ◌⊎◌}
use Rattle.std.specs.Prelude.{List, [], ◌∷◌, ◌++◌, length, take, drop, if◌then◌else◌, IsTrue}
use Rattle.std.specs.Prelude.{nat_lt, nat_le, ◌==◌, slice_index, Some, None, Option, flat_map}
use Rattle.{std.specs.Fmt.digit_glyph, line_notation.specs.Options.◌>>=◌}

-- a byte that a quoted text shows as it is: a printable one of ASCII other than the quote and the
-- backslash
abbrev pub is_plain : ℕ → Bool
is_plain b = nat_le 32 b && nat_lt b 127 && not (b == 34) && not (b == 92)

-- a backslash and a byte's two hexadecimal digits
abbrev pub escape : ℕ → List ℕ
escape b = 92 ∷ digit_glyph false (b / 16) ∷ digit_glyph false (b % 16) ∷ []

-- a byte as it is put: plain as it is, and else by its digits
abbrev pub quoted_byte : ℕ → List ℕ
quoted_byte b = if is_plain b then b ∷ [] else escape b

-- a text as it is put
unfoldable pub quoted : List ℕ → List ℕ
quoted text = 34 ∷ flat_map quoted_byte text ++ 34 ∷ []

-- a byte as it may be written: plain as it is, and each by its digits
abbrev pub IsPiece : ℕ → List ℕ → Type 0
IsPiece b piece = (IsTrue (is_plain b) × (piece ≡ b ∷ [])) ⊎ ((b < 256) × (piece ≡ escape b))

-- a piece for each byte
abbrev pub ArePieces : List ℕ → List ℕ → Type 0
ArePieces [] pieces = pieces ≡ []
ArePieces (b ∷ text) pieces =
    (piece rest : List ℕ) × (pieces ≡ piece ++ rest) × IsPiece b piece × ArePieces text rest

-- a text as it may be written. It need not be UTF-8
abbrev pub IsQuoted : List ℕ → List ℕ → Type 0
IsQuoted text word = (pieces : List ℕ) × (word ≡ 34 ∷ pieces ++ 34 ∷ []) × ArePieces text pieces

-- the value of a hexadecimal digit, of which a letter is lower-case
abbrev pub digit_in : ℕ → Option ℕ
digit_in c =
    if nat_le 48 c && nat_lt c 58 then Some (c - 48)
    else if nat_le 97 c && nat_lt c 103 then Some (c - 87)
    else None

-- the byte that two digits write
abbrev pub pair_in : ℕ → ℕ → Option ℕ
pair_in high low = do
  h ← digit_in high
  l ← digit_in low
  Some (h * 16 + l)

-- the text that plain bytes and escapes write
abbrev pub unescaped : List ℕ → Option (List ℕ)
unescaped [] = Some []
unescaped (b ∷ []) = if is_plain b then Some (b ∷ []) else None
unescaped (b ∷ c ∷ []) =
    if is_plain b then (unescaped (c ∷ []) >>= λ text. Some (b ∷ text)) else None
unescaped (b ∷ c ∷ d ∷ rest) =
    if b == 92 then (pair_in c d >>= λ byte. unescaped rest >>= λ text. Some (byte ∷ text))
    else if is_plain b then (unescaped (c ∷ d ∷ rest) >>= λ text. Some (b ∷ text))
    else None

-- what stands between a first and a last quote
abbrev pub is_in_quotes : List ℕ → Bool
is_in_quotes word =
    nat_le 2 (length word) && slice_index word 0 == 34 && slice_index word (length word - 1) == 34

abbrev pub between_quotes : List ℕ → Option (List ℕ)
between_quotes word =
    if is_in_quotes word then Some (take (length word - 2) (drop 1 word)) else None

-- the text that a word writes
abbrev pub quoted_in : List ℕ → Option (List ℕ)
quoted_in word = between_quotes word >>= unescaped
