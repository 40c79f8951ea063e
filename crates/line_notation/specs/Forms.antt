-- The forms of a line.
use Rattle.std.specs.Prelude.{◌≡◌, ℕ, List, [], ◌∷◌, Some, None, codes, Option, find, bytes_eq}
use Rattle.nbfx_values.specs.declared.content.ArrayKind.{ArrayKind}
use Rattle.line_notation.specs.{declared.line.Keyword.Keyword, Scalars.one_word}
use Rattle.line_notation.specs.{Options.alone, Options.◌>>=◌, Values.values_in, Values.Written}
use Rattle.line_notation.specs.Quoted.{IsQuoted, quoted, quoted_in}
use Rattle.line_notation.specs.Values.{AreSomeValues, if_some, IsOneValue, value_in, value_words}
use Rattle.line_notation.specs.Words.{next_in, spaced, words_of}
use Rattle.nbfx_values.specs.declared.content.ArrayKind.TheVariants as arrays
use Rattle.line_notation.specs.declared.line.Keyword.TheVariants as keywords

-- what a line says, before it is judged
pub data Form : Type 0 where
  start : (prefix local : List ℕ) → Form
  ns : (prefix uri : List ℕ) → Form
  attr : (prefix local : List ℕ) → Written → Form
  text : Written → Form
  comment : List ℕ → Form
  array : ArrayKind → (prefix local : List ℕ) → Form
  values : Written → Form
  close : Form

abbrev pub array_kind_word : ArrayKind → List ℕ
array_kind_word arrays.Bool = codes "bool"
array_kind_word arrays.Int16 = codes "int16"
array_kind_word arrays.Int32 = codes "int32"
array_kind_word arrays.Int64 = codes "int64"
array_kind_word arrays.Float = codes "float"
array_kind_word arrays.Double = codes "double"
array_kind_word arrays.Decimal = codes "decimal"
array_kind_word arrays.DateTime = codes "datetime"
array_kind_word arrays.TimeSpan = codes "timespan"
array_kind_word arrays.Uuid = codes "uuid"

-- two texts in quotes
abbrev pub AreQuoted : List ℕ → List ℕ → List ℕ → List ℕ → Type 0
AreQuoted first second a b = IsQuoted first a × IsQuoted second b

-- the words as they may be written
abbrev pub IsForm : Form → List (List ℕ) → Type 0
IsForm (start prefix local) words =
    (a b : List ℕ) × (words ≡ codes "start" ∷ a ∷ b ∷ []) × AreQuoted prefix local a b
IsForm (ns prefix uri) words =
    (a b : List ℕ) × (words ≡ codes "ns" ∷ a ∷ b ∷ []) × AreQuoted prefix uri a b
IsForm (attr prefix local written) words =
    (a b : List ℕ) × (own : List (List ℕ)) × (words ≡ codes "attr" ∷ a ∷ b ∷ own)
    × AreQuoted prefix local a b × IsOneValue written own
IsForm (text written) words =
    (own : List (List ℕ)) × (words ≡ codes "text" ∷ own) × IsOneValue written own
IsForm (comment bytes) words = (a : List ℕ) × (words ≡ codes "comment" ∷ a ∷ []) × IsQuoted bytes a
IsForm (array kind prefix local) words =
    (a b : List ℕ) × (words ≡ codes "array" ∷ array_kind_word kind ∷ a ∷ b ∷ [])
    × AreQuoted prefix local a b
IsForm (values written) words =
    (own : List (List ℕ)) × (words ≡ codes "values" ∷ own) × AreSomeValues written own
IsForm close words = words ≡ codes "close" ∷ []

-- the lines that say it
abbrev pub IsLine : Form → List ℕ → Type 0
IsLine form line = (words : List (List ℕ)) × (line ≡ spaced words) × IsForm form words

-- the words as they are put, and the line
abbrev pub form_words : Form → List (List ℕ)
form_words (start prefix local) = codes "start" ∷ quoted prefix ∷ quoted local ∷ []
form_words (ns prefix uri) = codes "ns" ∷ quoted prefix ∷ quoted uri ∷ []
form_words (attr prefix local written) =
    codes "attr" ∷ quoted prefix ∷ quoted local ∷ value_words written
form_words (text written) = codes "text" ∷ value_words written
form_words (comment bytes) = codes "comment" ∷ quoted bytes ∷ []
form_words (array kind prefix local) =
    codes "array" ∷ array_kind_word kind ∷ quoted prefix ∷ quoted local ∷ []
form_words (values written) = codes "values" ∷ value_words written
form_words close = codes "close" ∷ []

abbrev pub line_of : Form → List ℕ
line_of form = spaced (form_words form)

abbrev pub keyword_word : Keyword → List ℕ
keyword_word keywords.Start = codes "start"
keyword_word keywords.Ns = codes "ns"
keyword_word keywords.Attr = codes "attr"
keyword_word keywords.Text = codes "text"
keyword_word keywords.Comment = codes "comment"
keyword_word keywords.Array = codes "array"
keyword_word keywords.Values = codes "values"
keyword_word keywords.Close = codes "close"

abbrev pub keywords_of_lines : List Keyword
keywords_of_lines =
    keywords.Start ∷ keywords.Ns ∷ keywords.Attr ∷ keywords.Text ∷ keywords.Comment ∷ keywords.Array
    ∷ keywords.Values ∷ keywords.Close ∷ []

abbrev pub keyword_in : List ℕ → Option Keyword
keyword_in word = find (λ keyword. bytes_eq (keyword_word keyword) word) keywords_of_lines

abbrev pub array_kinds : List ArrayKind
array_kinds =
    arrays.Bool ∷ arrays.Int16 ∷ arrays.Int32 ∷ arrays.Int64 ∷ arrays.Float ∷ arrays.Double
    ∷ arrays.Decimal ∷ arrays.DateTime ∷ arrays.TimeSpan ∷ arrays.Uuid ∷ []

abbrev pub array_kind_in : List ℕ → Option ArrayKind
array_kind_in word = find (λ kind. bytes_eq (array_kind_word kind) word) array_kinds

-- two texts in front of words, and the words behind them
abbrev pub two_texts_at : List (List ℕ) → Option ((List ℕ × List ℕ) × List (List ℕ))
two_texts_at words = do
  a ← one_word quoted_in words
  b ← one_word quoted_in a.1
  Some ((a.0, b.0), b.1)

abbrev pub attribute_in : List (List ℕ) → Option Form
attribute_in words = do
  names ← two_texts_at words
  written ← value_in names.1
  Some (attr names.0.0 names.0.1 written)

abbrev pub array_in : List (List ℕ) → Option Form
array_in words = do
  kind ← one_word array_kind_in words
  names ← alone (two_texts_at kind.1)
  Some (array kind.0 names.0 names.1)

-- what the words behind a keyword say
abbrev pub form_behind : Keyword → List (List ℕ) → Option Form
form_behind keywords.Start words =
    alone (two_texts_at words) >>= λ names. Some (start names.0 names.1)
form_behind keywords.Ns words = alone (two_texts_at words) >>= λ names. Some (ns names.0 names.1)
form_behind keywords.Attr words = attribute_in words
form_behind keywords.Text words = value_in words >>= λ written. Some (text written)
form_behind keywords.Comment words =
    alone (one_word quoted_in words) >>= λ bytes. Some (comment bytes)
form_behind keywords.Array words = array_in words
form_behind keywords.Values words = values_in words >>= if_some >>= λ written. Some (values written)
form_behind keywords.Close [] = Some close
form_behind keywords.Close (word ∷ words) = None

-- what a line says, if it has a form
abbrev pub form_in : List (List ℕ) → Option Form
form_in words = do
  next ← next_in words
  keyword ← keyword_in next.0
  form_behind keyword next.1

abbrev pub form_of : List ℕ → Option Form
form_of line = form_in (words_of line)
