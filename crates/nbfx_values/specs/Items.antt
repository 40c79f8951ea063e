-- Which items a document can hold.
use Rattle.std.specs.Prelude.{ℕ, Bool, true, false, ◌&&◌, List, length, nat_lt, Some, None, Option}
use Rattle.std.specs.{List.list_all, Str.is_utf8}
use Rattle.nbfx_values.specs.declared.{content.ArrayItem.ArrayItem, scalars.Scalar.Scalar}
use Rattle.nbfx_values.specs.declared.content.ArrayKind.{ArrayKind, TheVariants.Decimal as Decimals}
use Rattle.nbfx_values.specs.declared.content.ArrayKind.TheVariants.{Bool as Bools, Uuid as Uuids}
use Rattle.nbfx_values.specs.declared.content.ArrayKind.TheVariants.{DateTime as DateTimes}
use Rattle.nbfx_values.specs.declared.content.ArrayKind.TheVariants.{Double as Doubles}
use Rattle.nbfx_values.specs.declared.content.ArrayKind.TheVariants.{Float as Floats, Int16, Int32}
use Rattle.nbfx_values.specs.declared.content.ArrayKind.TheVariants.{Int64, TimeSpan as TimeSpans}
use Rattle.nbfx_values.specs.declared.content.AttrItem.{AttrItem, TheVariants.Attr as AttrOn}
use Rattle.nbfx_values.specs.declared.content.AttrItem.TheVariants.{Xmlns as DeclaresOn}
use Rattle.nbfx_values.specs.declared.content.Item.{Item, TheVariants.Text, TheVariants.Xmlns}
use Rattle.nbfx_values.specs.declared.content.Item.TheVariants.{Array, Attr, Close, Comment, Start}
use Rattle.nbfx_values.specs.declared.scalars.Scalar.TheVariants.{DateTime, Decimal, Double, Float}
use Rattle.nbfx_values.specs.declared.scalars.Scalar.TheVariants.{Number, TimeSpan, Truth, Uuid}
use Rattle.nbfx_values.specs.Scalars.{is_signed, is_valid_scalar, is_valid_value}

-- whether a value is of an array's kind, and in its range
abbrev pub fits_kind : ArrayKind → Scalar → Bool
fits_kind Bools (Truth truth) = true
fits_kind Int16 (Number n) = is_signed 16 n
fits_kind Int32 (Number n) = is_signed 32 n
fits_kind Int64 (Number n) = is_signed 64 n
fits_kind Floats (Float bits) = is_valid_scalar (Float bits)
fits_kind Doubles (Double bits) = is_valid_scalar (Double bits)
fits_kind Decimals (Decimal d) = is_valid_scalar (Decimal d)
fits_kind DateTimes (DateTime pattern) = is_valid_scalar (DateTime pattern)
fits_kind TimeSpans (TimeSpan span) = is_valid_scalar (TimeSpan span)
fits_kind Uuids (Uuid bytes) = is_valid_scalar (Uuid bytes)
fits_kind _ _ = false

-- whether two texts are UTF-8
abbrev pub are_texts : List ℕ → List ℕ → Bool
are_texts first second = is_utf8 first && is_utf8 second

abbrev pub is_valid_attribute : AttrItem → Bool
is_valid_attribute (DeclaresOn prefix uri) = are_texts prefix uri
is_valid_attribute (AttrOn prefix local value) = are_texts prefix local && is_valid_value value

-- whether there is a value, and each is of the kind
abbrev pub is_valid_array : ArrayItem → Bool
is_valid_array a =
    are_texts a.prefix a.local
    && (list_all is_valid_attribute a.attrs
    && (nat_lt 0 (length a.values) && list_all (fits_kind a.kind) a.values))

abbrev pub is_valid_item : Item → Bool
is_valid_item (Start prefix local) = are_texts prefix local
is_valid_item (Xmlns prefix uri) = are_texts prefix uri
is_valid_item (Attr prefix local value) = are_texts prefix local && is_valid_value value
is_valid_item (Text value) = is_valid_value value
is_valid_item (Comment bytes) = is_utf8 bytes
is_valid_item (Array a) = is_valid_array a
is_valid_item Close = true

-- the declaration or the attribute that an item is, as an array's element has it
abbrev pub attribute_item : Item → Option AttrItem
attribute_item (Xmlns prefix uri) = Some (DeclaresOn prefix uri)
attribute_item (Attr prefix local value) = Some (AttrOn prefix local value)
attribute_item _ = None
