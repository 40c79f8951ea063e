-- What the words behind each keyword say, read and judged at once, for private calls.
use Rattle.std.specs.Prelude.{ℕ, List, [], ◌∷◌, if◌then◌else◌, nat_lt, Some, None, Ok, Err, Option}
use Rattle.std.specs.Prelude.{Result}
use Rattle.nbfx_values.specs.declared.content.{ArrayKind.ArrayKind, Item.TheVariants.Xmlns}
use Rattle.nbfx_values.specs.declared.content.Item.TheVariants.{Attr, Close, Comment, Start, Text}
use Rattle.nbfx_values.specs.declared.scalars.{Scalar.Scalar, Value.Value}
use Rattle.line_notation.specs.declared.line.{Keyword.Keyword, Line.Line}
use Rattle.line_notation.specs.declared.reader.LineKind.{LineKind, TheVariants.OutOfPlace}
use Rattle.line_notation.specs.{Forms.array_kind_in, Forms.form_behind, Scalars.one_word}
use Rattle.line_notation.specs.Judging.{begun_array, judged}
use Rattle.line_notation.specs.{Options.alone, Options.◌>>=◌, Parts.judged_value_in, Parts.mapped}
use Rattle.line_notation.specs.Parts.{both, gathered_in, holder_of, judged_text_in, judged_texts_at}
use Rattle.line_notation.specs.declared.line.Line.TheVariants as says

-- what the form behind a keyword says, if there is one
abbrev pub judged_behind : Option ArrayKind → Keyword → List (List ℕ)
    → Option (Result Line LineKind)
judged_behind kind keyword words = form_behind keyword words >>= λ form. Some (judged kind form)

-- two texts and no more
abbrev pub texts_alone : List (List ℕ) → Option (Result (List ℕ × List ℕ) LineKind)
texts_alone words = alone (judged_texts_at words)

abbrev pub read_start : List (List ℕ) → Option (Result Line LineKind)
read_start words =
    texts_alone words >>= λ texts. Some (mapped (λ t. says.Item (Start t.0 t.1)) texts)

abbrev pub read_declaration : List (List ℕ) → Option (Result Line LineKind)
read_declaration words =
    texts_alone words >>= λ texts. Some (mapped (λ t. says.Item (Xmlns t.0 t.1)) texts)

abbrev pub as_attribute : (List ℕ × List ℕ) × Value → Line
as_attribute one = says.Item (Attr one.0.0 one.0.1 one.1)

abbrev pub read_attribute : List (List ℕ) → Option (Result Line LineKind)
read_attribute words = do
  texts ← judged_texts_at words
  value ← judged_value_in texts.1
  Some (mapped as_attribute (both texts.0 value))

abbrev pub read_text : List (List ℕ) → Option (Result Line LineKind)
read_text words = judged_value_in words >>= λ value. Some (mapped (λ v. says.Item (Text v)) value)

abbrev pub read_comment : List (List ℕ) → Option (Result Line LineKind)
read_comment words =
    alone (one_word judged_text_in words)
    >>= λ text. Some (mapped (λ t. says.Item (Comment t)) text)

abbrev pub read_array : List (List ℕ) → Option (Result Line LineKind)
read_array words = do
  kind ← one_word array_kind_in words
  texts ← texts_alone kind.1
  Some (mapped (λ t. says.Array (begun_array kind.0 t.0 t.1)) texts)

abbrev pub values_of : Option ArrayKind → Result (List Scalar) LineKind → Result Line LineKind
values_of kind (Err refusal) = Err refusal
values_of None (Ok values) = Err OutOfPlace
values_of (Some kind) (Ok values) = Ok (says.Values values)

abbrev pub read_values : Option ArrayKind → List (List ℕ) → Option (Result Line LineKind)
read_values kind words = do
  all ← gathered_in (holder_of kind) words
  if nat_lt 0 all.0 then Some (values_of kind all.1) else None

abbrev pub read_close : List (List ℕ) → Option (Result Line LineKind)
read_close [] = Some (Ok (says.Item Close))
read_close (word ∷ words) = None
