-- What a reader of strings stands for, and what it answers. It keeps the text alone of the bytes
-- that it used.
use Rattle.std.specs.Prelude.{◌≡◌, ℕ, ◌+◌, ◌≤◌, List, [], ◌++◌, length, drop, vec_len}
use Rattle.unit_streams.specs.Front.{begun, Front, whole, wrong}
use Rattle.multibyte_ints.specs.declared.text.{Part.Part, StringReader.StringReader}
use Rattle.multibyte_ints.specs.declared.text.Part.TheVariants.{Answered, Length, Text}
use Rattle.multibyte_ints.specs.declared.text.StringStep.{StringStep, TheVariants.TooLong}
use Rattle.multibyte_ints.specs.declared.text.StringStep.TheVariants.{BadInt, BadUtf8, Done, More}
use Rattle.multibyte_ints.specs.{Integer.int_at, Reader.StandsFor, TextPart.Waits}
use Rattle.multibyte_ints.specs.Text.{bad_int, bad_utf8, string_at, StringFault, too_long}

-- the greatest length of a text that the reader takes
unfoldable pub limit_of : StringReader → ℕ
limit_of reader = reader.limit

-- how many bytes of text the reader holds
unfoldable pub held_of : StringReader → ℕ
held_of reader = vec_len reader.bytes

-- the length has begun
pub record InLength (reader : StringReader) (p : List ℕ) : Type 0 where
  pub begun : int_at p ≡ begun
  pub int : StandsFor reader.length p

-- the length is whole, and so many bytes of the text are still to come
pub record InText (reader : StringReader) (left : ℕ) (p : List ℕ) : Type 0 where
  pub len : ℕ
  pub int_len : ℕ
  pub int : int_at p ≡ whole len int_len
  pub low : len ≤ reader.limit
  pub kept : reader.bytes.items ≡ drop int_len p
  pub rest : length p + left ≡ int_len + len

-- the last of the bytes made such an integer whole
abbrev pub EndsAtInt : List ℕ → ℕ → Type 0
EndsAtInt p n = int_at p ≡ whole n (length p)

-- these bytes are all that the answer rests on
abbrev pub Rests : ℕ → List ℕ → List ℕ → StringStep → Type 0
Rests limit p text More = ⊥
Rests limit p text Done = string_at limit p ≡ whole text (length p)
Rests limit p text BadInt = string_at limit p ≡ wrong bad_int (length p)
Rests limit p text TooLong = string_at limit p ≡ wrong too_long (length p)
Rests limit p text BadUtf8 = string_at limit p ≡ wrong bad_utf8 (length p)

-- the part has been reached behind the bytes q
abbrev pub Reached : StringReader → List ℕ → Part → Type 0
Reached reader q Length = InLength reader q
Reached reader q (Text left) = InText reader left q
Reached reader q (Answered step) = Rests reader.limit q reader.bytes.items step

-- the bytes used since the reader was new or started again
unfoldable pub StringStandsFor : StringReader → List ℕ → Type 0
StringStandsFor reader p = Reached reader p reader.part × Waits reader.part

-- the answer where so many bytes of a piece were used behind the bytes p
abbrev pub StringAnswersAt : ℕ → List ℕ → List ℕ → ℕ → StringStep → Type 0
StringAnswersAt limit p piece used More =
    (string_at limit (p ++ piece) ≡ begun) × (used ≡ length piece)
StringAnswersAt limit p piece used Done =
    (s : List ℕ) × (string_at limit (p ++ piece) ≡ whole s (length p + used))
StringAnswersAt limit p piece used BadInt =
    string_at limit (p ++ piece) ≡ wrong bad_int (length p + used)
StringAnswersAt limit p piece used TooLong =
    string_at limit (p ++ piece) ≡ wrong too_long (length p + used)
StringAnswersAt limit p piece used BadUtf8 =
    string_at limit (p ++ piece) ≡ wrong bad_utf8 (length p + used)

-- the text of a whole string, else none
abbrev pub text_of : Front (List ℕ) StringFault → List ℕ
text_of begun = []
text_of (whole s k) = s
text_of (wrong r k) = []
