-- What a line of a form is refused for by itself, and what it says else.
use Rattle.std.specs.Prelude.{ℕ, Bool, true, false, not, ◌&&◌, List, [], ◌∷◌, ◌++◌, if◌then◌else◌}
use Rattle.std.specs.Prelude.{Some, None, Ok, Err, Option, Result}
use Rattle.{std.specs.Str.is_utf8, line_notation.specs.declared.line.Line.Line}
use Rattle.nbfx_values.specs.declared.content.{ArrayItem.ArrayItem, ArrayKind.ArrayKind}
use Rattle.nbfx_values.specs.declared.content.Item.TheVariants.{Attr, Close, Comment, Start}
use Rattle.nbfx_values.specs.declared.content.Item.TheVariants.{Text as TextItem, Xmlns}
use Rattle.nbfx_values.specs.declared.scalars.Scalar.{Scalar, TheVariants.QName, TheVariants.Text}
use Rattle.nbfx_values.specs.{declared.scalars.Value.Value, Scalars.is_valid_scalar}
use Rattle.nbfx_values.specs.declared.scalars.Value.TheVariants.{List as ListOf, One}
use Rattle.nbfx_values.specs.Items.{are_texts, fits_kind}
use Rattle.line_notation.specs.declared.reader.LineKind.{LineKind, TheVariants.OutOfRange}
use Rattle.line_notation.specs.declared.reader.LineKind.TheVariants.{BadText, OutOfPlace}
use Rattle.line_notation.specs.Forms.{array, attr, close, comment, Form, ns, start, text, values}
use Rattle.line_notation.specs.Values.{list, no_more, one, Written}
use Rattle.line_notation.specs.declared.line.Line.TheVariants as says

-- whether a value's text, if it has one, is UTF-8
abbrev pub has_good_text : Scalar → Bool
has_good_text (Text bytes) = is_utf8 bytes
has_good_text (QName letter name) = is_utf8 name
has_good_text _ = true

-- the same of all values
abbrev pub have_good_texts : Written → Bool
have_good_texts no_more = true
have_good_texts (one s more) = has_good_text s && have_good_texts more
have_good_texts (list within more) = have_good_texts within && have_good_texts more

abbrev pub has_bad_text : Form → Bool
has_bad_text (start prefix local) = not (are_texts prefix local)
has_bad_text (ns prefix uri) = not (are_texts prefix uri)
has_bad_text (attr prefix local written) = not (are_texts prefix local && have_good_texts written)
has_bad_text (text written) = not (have_good_texts written)
has_bad_text (comment bytes) = not (is_utf8 bytes)
has_bad_text (array kind prefix local) = not (are_texts prefix local)
has_bad_text (values written) = not (have_good_texts written)
has_bad_text close = false

-- whether none is a list and each passes a test
abbrev pub are_scalars : (Scalar → Bool) → Written → Bool
are_scalars test no_more = true
are_scalars test (one s more) = test s && are_scalars test more
are_scalars test (list within more) = false

-- whether records can hold each: a list holds no list
abbrev pub are_in_range : Written → Bool
are_in_range no_more = true
are_in_range (one s more) = is_valid_scalar s && are_in_range more
are_in_range (list within more) = are_scalars is_valid_scalar within && are_in_range more

-- the values of an array are of its kind. Where no array is open they are judged each by itself
abbrev pub fit : Option ArrayKind → Written → Bool
fit None = are_in_range
fit (Some kind) = are_scalars (fits_kind kind)

abbrev pub is_out_of_range : Option ArrayKind → Form → Bool
is_out_of_range kind (attr prefix local written) = not (are_in_range written)
is_out_of_range kind (text written) = not (are_in_range written)
is_out_of_range kind (values written) = not (fit kind written)
is_out_of_range kind _ = false

-- the values that are no lists, those in lists too
abbrev pub scalars_of : Written → List Scalar
scalars_of no_more = []
scalars_of (one s more) = s ∷ scalars_of more
scalars_of (list within more) = scalars_of within ++ scalars_of more

-- the first value
abbrev pub value_said : Written → Value
value_said no_more = ListOf []
value_said (one s more) = One s
value_said (list within more) = ListOf (scalars_of within)

-- an array of which there is no value yet
abbrev pub begun_array : ArrayKind → (prefix local : List ℕ) → ArrayItem
begun_array kind prefix local =
    record { prefix = prefix; local = local; attrs = []; kind = kind; values = [] }

-- what a form says where an array of the kind is open, or none is
abbrev pub said : Option ArrayKind → Form → Result Line LineKind
said kind (start prefix local) = Ok (says.Item (Start prefix local))
said kind (ns prefix uri) = Ok (says.Item (Xmlns prefix uri))
said kind (attr prefix local written) = Ok (says.Item (Attr prefix local (value_said written)))
said kind (text written) = Ok (says.Item (TextItem (value_said written)))
said kind (comment bytes) = Ok (says.Item (Comment bytes))
said kind (array own prefix local) = Ok (says.Array (begun_array own prefix local))
said None (values written) = Err OutOfPlace
said (Some kind) (values written) = Ok (says.Values (scalars_of written))
said kind close = Ok (says.Item Close)

-- the same, unless a text isn't UTF-8, or else a value is out of range
abbrev pub judged : Option ArrayKind → Form → Result Line LineKind
judged kind form =
    if has_bad_text form then Err BadText
    else if is_out_of_range kind form then Err OutOfRange
    else said kind form
