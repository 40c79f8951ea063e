-- The words of one value: as they are put, in every way that they may be written, and how they are
-- read.
use Rattle.std.specs.Prelude.{◌≡◌, ℕ, ◌+◌, ◌-◌, ◌≤◌, Bool, true, false, ◌&&◌, List, [], ◌∷◌, ◌++◌}
use Rattle.std.specs.Prelude.{if◌then◌else◌, IsTrue, nat_lt, nat_le, Some, None, codes, decimal}
use Rattle.std.specs.Prelude.{Option, find, bytes_eq}
use Rattle.std.specs.{Fmt.signed_decimal, Int.w32, Int.w64}
use Rattle.{hex.specs.Hex.encode_lower, line_notation.specs.Words.next_in}
use Rattle.uuid.specs.{Parts.swap_fields, Text.hyphenated_text, Text.lower, Text.parsed}
use Rattle.nbfx_values.specs.declared.scalars.{Dec.Dec, Scalar.Scalar}
use Rattle.nbfx_values.specs.declared.scalars.Scalar.TheVariants.{Bytes, DateTime, Decimal, Double}
use Rattle.nbfx_values.specs.declared.scalars.Scalar.TheVariants.{Float, Number, QName, Text}
use Rattle.nbfx_values.specs.declared.scalars.Scalar.TheVariants.{TimeSpan, Truth, UniqueId, Uuid}
use Rattle.nbfx_values.specs.Scalars.{are_bytes, is_identifier, is_unsigned}
use Rattle.line_notation.specs.{declared.scalars.ScalarKind.ScalarKind, Options.◌>>=◌}
use Rattle.line_notation.specs.Numerals.{bytes_in, hexadecimal, hexadecimal_in, integer_in}
use Rattle.line_notation.specs.Numerals.{IsInteger, IsNatural, natural_in}
use Rattle.line_notation.specs.Quoted.{between_quotes, IsQuoted, quoted, quoted_in}
use Rattle.line_notation.specs.declared.scalars.ScalarKind.TheVariants as kinds

abbrev pub truth_word : Bool → List ℕ
truth_word true = codes "true"
truth_word false = codes "false"

abbrev pub sign_word : Bool → List ℕ
sign_word true = codes "-"
sign_word false = codes "+"

-- an identifier's first three fields stand in its bytes with their lowest byte first
abbrev pub identifier_word : List ℕ → List ℕ
identifier_word bytes = hyphenated_text lower (swap_fields bytes)

abbrev pub digits_in_quotes : List ℕ → List ℕ
digits_in_quotes bytes = 34 ∷ encode_lower bytes ++ 34 ∷ []

-- a letter of which 0 is a
abbrev pub letter_word : ℕ → List ℕ
letter_word letter = (97 + letter) ∷ []

-- the words as they are put
abbrev pub scalar_words : Scalar → List (List ℕ)
scalar_words (Number n) = codes "number" ∷ signed_decimal n ∷ []
scalar_words (Truth truth) = codes "truth" ∷ truth_word truth ∷ []
scalar_words (Float bits) = codes "float" ∷ hexadecimal w32 bits ∷ []
scalar_words (Double bits) = codes "double" ∷ hexadecimal w64 bits ∷ []
scalar_words (Decimal d) =
    codes "decimal" ∷ decimal d.scale ∷ sign_word d.negative ∷ decimal d.magnitude ∷ []
scalar_words (DateTime pattern) = codes "datetime" ∷ hexadecimal w64 pattern ∷ []
scalar_words (TimeSpan span) = codes "timespan" ∷ signed_decimal span ∷ []
scalar_words (Text text) = codes "string" ∷ quoted text ∷ []
scalar_words (Bytes bytes) = codes "bytes" ∷ digits_in_quotes bytes ∷ []
scalar_words (UniqueId bytes) = codes "id" ∷ identifier_word bytes ∷ []
scalar_words (Uuid bytes) = codes "uuid" ∷ identifier_word bytes ∷ []
scalar_words (QName letter name) = codes "qname" ∷ letter_word letter ∷ quoted name ∷ []

-- the words as they may be written. A text need not be UTF-8, and a number may have any size
abbrev pub IsScalar : Scalar → List (List ℕ) → Type 0
IsScalar (Number n) words =
    (word : List ℕ) × (words ≡ codes "number" ∷ word ∷ []) × IsInteger n word
IsScalar (Truth truth) words = words ≡ codes "truth" ∷ truth_word truth ∷ []
IsScalar (Float bits) words =
    IsTrue (is_unsigned 32 bits) × (words ≡ codes "float" ∷ hexadecimal w32 bits ∷ [])
IsScalar (Double bits) words =
    IsTrue (is_unsigned 64 bits) × (words ≡ codes "double" ∷ hexadecimal w64 bits ∷ [])
IsScalar (Decimal d) words =
    (scale magnitude : List ℕ)
    × (words ≡ codes "decimal" ∷ scale ∷ sign_word d.negative ∷ magnitude ∷ [])
    × IsNatural d.scale scale × IsNatural d.magnitude magnitude
IsScalar (DateTime pattern) words =
    IsTrue (is_unsigned 64 pattern) × (words ≡ codes "datetime" ∷ hexadecimal w64 pattern ∷ [])
IsScalar (TimeSpan span) words =
    (word : List ℕ) × (words ≡ codes "timespan" ∷ word ∷ []) × IsInteger span word
IsScalar (Text text) words =
    (word : List ℕ) × (words ≡ codes "string" ∷ word ∷ []) × IsQuoted text word
IsScalar (Bytes bytes) words =
    IsTrue (are_bytes bytes) × (words ≡ codes "bytes" ∷ digits_in_quotes bytes ∷ [])
IsScalar (UniqueId bytes) words =
    IsTrue (is_identifier bytes) × (words ≡ codes "id" ∷ identifier_word bytes ∷ [])
IsScalar (Uuid bytes) words =
    IsTrue (is_identifier bytes) × (words ≡ codes "uuid" ∷ identifier_word bytes ∷ [])
IsScalar (QName letter name) words =
    (letter ≤ 25) × (word : List ℕ) × (words ≡ codes "qname" ∷ letter_word letter ∷ word ∷ [])
    × IsQuoted name word

abbrev pub scalar_kind_word : ScalarKind → List ℕ
scalar_kind_word kinds.Number = codes "number"
scalar_kind_word kinds.Truth = codes "truth"
scalar_kind_word kinds.Float = codes "float"
scalar_kind_word kinds.Double = codes "double"
scalar_kind_word kinds.Decimal = codes "decimal"
scalar_kind_word kinds.DateTime = codes "datetime"
scalar_kind_word kinds.TimeSpan = codes "timespan"
scalar_kind_word kinds.Text = codes "string"
scalar_kind_word kinds.Bytes = codes "bytes"
scalar_kind_word kinds.UniqueId = codes "id"
scalar_kind_word kinds.Uuid = codes "uuid"
scalar_kind_word kinds.QName = codes "qname"

abbrev pub scalar_kinds : List ScalarKind
scalar_kinds =
    kinds.Number ∷ kinds.Truth ∷ kinds.Float ∷ kinds.Double ∷ kinds.Decimal ∷ kinds.DateTime
    ∷ kinds.TimeSpan ∷ kinds.Text ∷ kinds.Bytes ∷ kinds.UniqueId ∷ kinds.Uuid ∷ kinds.QName ∷ []

abbrev pub scalar_kind_in : List ℕ → Option ScalarKind
scalar_kind_in word = find (λ kind. bytes_eq (scalar_kind_word kind) word) scalar_kinds

abbrev pub truth_in : List ℕ → Option Bool
truth_in word =
    if bytes_eq word (codes "true") then Some true
    else if bytes_eq word (codes "false") then Some false
    else None

-- whether a sign is a minus
abbrev pub sign_in : List ℕ → Option Bool
sign_in word =
    if bytes_eq word (codes "-") then Some true
    else if bytes_eq word (codes "+") then Some false
    else None

abbrev pub letter_in : List ℕ → Option ℕ
letter_in [] = None
letter_in (c ∷ []) = if nat_le 97 c && nat_lt c 123 then Some (c - 97) else None
letter_in (c ∷ d ∷ more) = None

-- of the forms that `uuid` reads, the hyphenated one in lower case alone
abbrev pub if_identifier : List ℕ → List ℕ → Option (List ℕ)
if_identifier word fields =
    if bytes_eq (hyphenated_text lower fields) word then Some (swap_fields fields) else None

abbrev pub identifier_in : List ℕ → Option (List ℕ)
identifier_in word = parsed word >>= if_identifier word

abbrev pub bytes_in_quotes : List ℕ → Option (List ℕ)
bytes_in_quotes word = between_quotes word >>= bytes_in

abbrev pub decimal_of : ℕ → Bool → ℕ → Dec
decimal_of scale negative magnitude =
    record { scale = scale; negative = negative; magnitude = magnitude }

-- what the next word writes, and the words behind it
abbrev pub one_word : {A : Type 0} → (List ℕ → Option A) → List (List ℕ)
    → Option (A × List (List ℕ))
one_word read words = do
  next ← next_in words
  a ← read next.0
  Some (a, next.1)

-- the same of a value
abbrev pub valued : {A : Type 0} → (A → Scalar) → (List ℕ → Option A) → List (List ℕ)
    → Option (Scalar × List (List ℕ))
valued make read words = do
  one ← one_word read words
  Some (make one.0, one.1)

abbrev pub decimal_at : List (List ℕ) → Option (Scalar × List (List ℕ))
decimal_at words = do
  scale ← one_word natural_in words
  negative ← one_word sign_in scale.1
  magnitude ← one_word natural_in negative.1
  Some (Decimal (decimal_of scale.0 negative.0 magnitude.0), magnitude.1)

abbrev pub name_at : List (List ℕ) → Option (Scalar × List (List ℕ))
name_at words = do
  letter ← one_word letter_in words
  name ← one_word quoted_in letter.1
  Some (QName letter.0 name.0, name.1)

-- a value of a kind in front of words, and the words behind it
abbrev pub scalar_at : ScalarKind → List (List ℕ) → Option (Scalar × List (List ℕ))
scalar_at kinds.Number = valued Number integer_in
scalar_at kinds.Truth = valued Truth truth_in
scalar_at kinds.Float = valued Float (hexadecimal_in w32)
scalar_at kinds.Double = valued Double (hexadecimal_in w64)
scalar_at kinds.Decimal = decimal_at
scalar_at kinds.DateTime = valued DateTime (hexadecimal_in w64)
scalar_at kinds.TimeSpan = valued TimeSpan integer_in
scalar_at kinds.Text = valued Text quoted_in
scalar_at kinds.Bytes = valued Bytes bytes_in_quotes
scalar_at kinds.UniqueId = valued UniqueId identifier_in
scalar_at kinds.Uuid = valued Uuid identifier_in
scalar_at kinds.QName = name_at
