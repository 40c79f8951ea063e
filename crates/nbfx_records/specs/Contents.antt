-- What a whole shape says: its node, unless one of its texts isn't UTF-8 or one of its values is
-- none of its kind.
use Rattle.std.specs.Prelude.{ℕ, zero, suc, ◌+◌, ◌*◌, ◌%◌, ◌^◌, Bool, true, false, not, ◌&&◌, ◌||◌}
use Rattle.std.specs.Prelude.{List, [], ◌∷◌, ◌++◌, length, take, drop, pos, if◌then◌else◌, nat_le}
use Rattle.std.specs.Prelude.{◌==◌, slice_index, Some, None, Ok, Err, Option, Result, ok_or}
use Rattle.std.specs.Prelude.{option_map, option_and_then, encode_utf8_all}
use Rattle.std.specs.Char.Utf16.{has_unpaired_surrogate, utf16_lossy_chars}
use Rattle.std.specs.Int.{Width, cast_signed, from_le_bytes, w16, w32, w64, w8}
use Rattle.std.specs.{List.list_all, Str.is_utf8}
use Rattle.nbfx_values.specs.declared.{content.ArrayKind.ArrayKind, scalars.Scalar.Scalar}
use Rattle.nbfx_records.specs.{declared.kinds.TextKind.TextKind, Kinds.text_kind_in, Kinds.width_of}
use Rattle.nbfx_records.specs.declared.nodes.{ArrayNode.ArrayNode, Node.Node}
use Rattle.nbfx_records.specs.declared.nodes.{AttrNode.AttrNode, RawScalar.RawScalar}
use Rattle.nbfx_records.specs.declared.nodes.NameRef.{NameRef, TheVariants.Id, TheVariants.Inline}
use Rattle.nbfx_records.specs.declared.nodes.RawScalar.TheVariants.{Dictionary, Known, QName}
use Rattle.nbfx_records.specs.declared.nodes.{RawValue.RawValue, RecordFault.RecordFault}
use Rattle.nbfx_records.specs.declared.nodes.RawValue.TheVariants.{List as ListOf, One}
use Rattle.nbfx_records.specs.Shapes.{adds, ArrayShape, attributes, AttributeShape, begins_element}
use Rattle.nbfx_records.specs.Shapes.{bytes_of, CellsShape, comments, declares, ends_element}
use Rattle.nbfx_records.specs.Shapes.{has_text, named_by, NamedShape, one, qualified_by, repeats}
use Rattle.nbfx_records.specs.Shapes.{ScalarShape, several, Shape, ValueShape}
use Rattle.nbfx_values.specs.declared.scalars.Scalar.TheVariants as scalars
use Rattle.nbfx_records.specs.declared.kinds.TextKind.TheVariants as texts
use Rattle.nbfx_records.specs.declared.nodes.AttrNode.TheVariants as attribute_nodes
use Rattle.nbfx_records.specs.declared.nodes.Node.TheVariants as nodes
use Rattle.nbfx_records.specs.declared.nodes.RecordFault.TheVariants as faults

-- two bytes a unit, the lower first, as far as there are two
abbrev pub units_of : List ℕ → List ℕ
units_of [] = []
units_of (low ∷ []) = []
units_of (low ∷ high ∷ bytes) = (low + 256 * high) ∷ units_of bytes

-- the text that UTF-16 spells
abbrev pub utf16_text : List ℕ → Option (List ℕ)
utf16_text bytes =
    if (length bytes % 2 == 1) || has_unpaired_surrogate (units_of bytes)
    then None
    else Some (encode_utf8_all (utf16_lossy_chars (units_of bytes)))

abbrev pub truth_of : ℕ → Option Scalar
truth_of byte =
    if byte == 0 then Some (scalars.Truth false)
    else if byte == 1 then Some (scalars.Truth true)
    else None

-- two bytes that say nothing, the scale, the sign, the upper 32 bits, the lower 64
abbrev pub decimal_of : List ℕ → Option Scalar
decimal_of bytes =
    let scale = slice_index bytes 2 in
    let sign = slice_index bytes 3 in
    let high = from_le_bytes w32 (take 4 (drop 4 bytes)) in
    let low = from_le_bytes w64 (drop 8 bytes) in
    if nat_le scale 28 && ((sign == 0) || (sign == 128))
    then Some (scalars.Decimal (record {
      scale = scale;
      negative = (sign == 128);
      magnitude = high * 2 ^ 64 + low;
    }))
    else None

abbrev pub signed_of : Width → List ℕ → Option Scalar
signed_of w bytes = Some (scalars.Number (cast_signed w (from_le_bytes w bytes)))

-- sixteen bytes are an identifier
abbrev pub identifier_of : (List ℕ → Scalar) → List ℕ → Option Scalar
identifier_of see bytes = if length bytes == 16 then Some (see bytes) else None

-- the value of such bytes, if they are one of its kind; that a text is UTF-8 is judged before
unfoldable pub scalar_of : TextKind → List ℕ → Option Scalar
scalar_of texts.Zero bytes = Some (scalars.Number (pos 0))
scalar_of texts.One bytes = Some (scalars.Number (pos 1))
scalar_of texts.False bytes = Some (scalars.Truth false)
scalar_of texts.True bytes = Some (scalars.Truth true)
scalar_of texts.Int8 bytes = signed_of w8 bytes
scalar_of texts.Int16 bytes = signed_of w16 bytes
scalar_of texts.Int32 bytes = signed_of w32 bytes
scalar_of texts.Int64 bytes = signed_of w64 bytes
scalar_of texts.Float bytes = Some (scalars.Float (from_le_bytes w32 bytes))
scalar_of texts.Double bytes = Some (scalars.Double (from_le_bytes w64 bytes))
scalar_of texts.Decimal bytes = decimal_of bytes
scalar_of texts.DateTime bytes = Some (scalars.DateTime (from_le_bytes w64 bytes))
scalar_of texts.Chars8 bytes = Some (scalars.Text bytes)
scalar_of texts.Chars16 bytes = Some (scalars.Text bytes)
scalar_of texts.Chars32 bytes = Some (scalars.Text bytes)
scalar_of texts.Bytes8 bytes = Some (scalars.Bytes bytes)
scalar_of texts.Bytes16 bytes = Some (scalars.Bytes bytes)
scalar_of texts.Bytes32 bytes = Some (scalars.Bytes bytes)
scalar_of texts.StartList bytes = None
scalar_of texts.EndList bytes = None
scalar_of texts.Empty bytes = Some (scalars.Text [])
scalar_of texts.Dictionary bytes = None
scalar_of texts.UniqueId bytes = identifier_of scalars.UniqueId bytes
scalar_of texts.TimeSpan bytes = Some (scalars.TimeSpan (cast_signed w64 (from_le_bytes w64 bytes)))
scalar_of texts.Uuid bytes = identifier_of scalars.Uuid bytes
scalar_of texts.UInt64 bytes = Some (scalars.Number (pos (from_le_bytes w64 bytes)))
scalar_of texts.Bool bytes = truth_of (slice_index bytes 0)
scalar_of texts.UnicodeChars8 bytes = option_map scalars.Text (utf16_text bytes)
scalar_of texts.UnicodeChars16 bytes = option_map scalars.Text (utf16_text bytes)
scalar_of texts.UnicodeChars32 bytes = option_map scalars.Text (utf16_text bytes)
scalar_of texts.QNameDictionary bytes = None

-- the kinds whose bytes are UTF-8
abbrev pub is_chars : TextKind → Bool
is_chars texts.Chars8 = true
is_chars texts.Chars16 = true
is_chars texts.Chars32 = true
is_chars _ = false

-- the kinds of which each record has as many bytes, and whose value is no text
abbrev pub is_sized : TextKind → Bool
is_sized texts.Chars8 = false
is_sized texts.Chars16 = false
is_sized texts.Chars32 = false
is_sized texts.Bytes8 = false
is_sized texts.Bytes16 = false
is_sized texts.Bytes32 = false
is_sized texts.Empty = false
is_sized texts.UnicodeChars8 = false
is_sized texts.UnicodeChars16 = false
is_sized texts.UnicodeChars32 = false
is_sized _ = true

-- texts are judged before values
abbrev pub judge : {A : Type 0} → Bool → Option A → Result A RecordFault
judge texts found = if texts then ok_or found faults.BadValue else Err faults.BadUtf8

-- the value of a kind's bytes
abbrev pub known_judged : TextKind → List ℕ → Result Scalar RecordFault
known_judged kind bytes = judge (not (is_chars kind) || is_utf8 bytes) (scalar_of kind bytes)

-- whether each text of a shape is UTF-8
abbrev pub scalar_is_text : ScalarShape → Bool
scalar_is_text (bytes_of kind bytes) = not (is_chars kind) || is_utf8 bytes
scalar_is_text _ = true

abbrev pub value_is_text : ValueShape → Bool
value_is_text (one scalar) = scalar_is_text scalar
value_is_text (several values) = list_all scalar_is_text values

abbrev pub name_is_text : NameRef → Bool
name_is_text (Inline bytes) = is_utf8 bytes
name_is_text (Id id) = true

abbrev pub attribute_is_text : AttributeShape → Bool
attribute_is_text (attributes prefix name value) =
    is_utf8 prefix && (name_is_text name && value_is_text value)
attribute_is_text (declares prefix uri) = is_utf8 prefix && name_is_text uri

abbrev pub is_text : Shape → Bool
is_text ends_element = true
is_text (comments bytes) = is_utf8 bytes
is_text (begins_element prefix name) = is_utf8 prefix && name_is_text name
is_text (adds attribute) = attribute_is_text attribute
is_text (has_text value ends) = value_is_text value
is_text (repeats array) =
    is_utf8 array.prefix && (name_is_text array.name && list_all attribute_is_text array.attributes)

-- the value of a shape, if its bytes are of its kind
abbrev pub scalar_value : ScalarShape → Option RawScalar
scalar_value (bytes_of kind bytes) = option_map Known (scalar_of kind bytes)
scalar_value (named_by id) = Some (Dictionary id)
scalar_value (qualified_by letter id) = if nat_le letter 25 then Some (QName letter id) else None

-- each of a list, if each is there
abbrev pub each : {A B : Type 0} → (A → Option B) → List A → Option (List B)
each f [] = Some []
each f (x ∷ xs) = option_and_then (λ y. option_map (λ ys. y ∷ ys) (each f xs)) (f x)

abbrev pub shape_value : ValueShape → Option RawValue
shape_value (one scalar) = option_map One (scalar_value scalar)
shape_value (several values) = option_map ListOf (each scalar_value values)

abbrev pub attribute_value : AttributeShape → Option AttrNode
attribute_value (attributes prefix name value) =
    option_map (attribute_nodes.Attribute prefix name) (shape_value value)
attribute_value (declares prefix uri) = Some (attribute_nodes.Xmlns prefix uri)

-- so many values of so many bytes each
abbrev pub cells : ℕ → ℕ → List ℕ → List (List ℕ)
cells zero width bytes = []
cells (suc count) width bytes = take width bytes ∷ cells count width (drop width bytes)

abbrev pub cell_values : ArrayKind → ℕ → List ℕ → Option (List Scalar)
cell_values kind count bytes =
    each (scalar_of (text_kind_in kind)) (cells count (width_of kind) bytes)

abbrev pub array_of : ArrayShape → Option ArrayNode
array_of a =
    option_and_then (λ attrs. option_map (λ values. record {
      prefix = a.prefix;
      name = a.name;
      attrs = attrs;
      kind = a.kind;
      values = values;
    }) (cell_values a.kind a.count a.bytes)) (each attribute_value a.attributes)

abbrev pub attribute_node : AttrNode → Node
attribute_node (attribute_nodes.Attribute prefix name value) = nodes.Attribute prefix name value
attribute_node (attribute_nodes.Xmlns prefix uri) = nodes.Xmlns prefix uri

abbrev pub node_of : Shape → Option Node
node_of ends_element = Some nodes.EndElement
node_of (comments bytes) = Some (nodes.Comment bytes)
node_of (begins_element prefix name) = Some (nodes.Element prefix name)
node_of (adds attribute) = option_map attribute_node (attribute_value attribute)
node_of (has_text value ends) = option_map (λ v. nodes.Text v ends) (shape_value value)
node_of (repeats array) = option_map nodes.Array (array_of array)

-- the parts of a record, judged
abbrev pub text_judged : List ℕ → Result (List ℕ) RecordFault
text_judged bytes = judge (is_utf8 bytes) (Some bytes)

abbrev pub name_judged : NameRef → Result NameRef RecordFault
name_judged name = judge (name_is_text name) (Some name)

abbrev pub element_judged : NamedShape → Result Node RecordFault
element_judged it =
    judge (is_utf8 it.prefix && name_is_text it.name) (Some (nodes.Element it.prefix it.name))

abbrev pub scalar_judged : ScalarShape → Result RawScalar RecordFault
scalar_judged scalar = judge (scalar_is_text scalar) (scalar_value scalar)

abbrev pub scalars_judged : List ScalarShape → Result (List RawScalar) RecordFault
scalars_judged scalars = judge (list_all scalar_is_text scalars) (each scalar_value scalars)

abbrev pub value_judged : ValueShape → Result RawValue RecordFault
value_judged value = judge (value_is_text value) (shape_value value)

abbrev pub attribute_judged : AttributeShape → Result AttrNode RecordFault
attribute_judged attribute = judge (attribute_is_text attribute) (attribute_value attribute)

abbrev pub attributes_judged : List AttributeShape → Result (List AttrNode) RecordFault
attributes_judged parts = judge (list_all attribute_is_text parts) (each attribute_value parts)

abbrev pub cells_judged : CellsShape → Result (List Scalar) RecordFault
cells_judged shape = judge true (cell_values shape.kind shape.count shape.bytes)

abbrev pub array_judged : ArrayShape → Result ArrayNode RecordFault
array_judged array = judge (is_text (repeats array)) (array_of array)

-- what is wrong with a value, where texts come behind it: with these first
abbrev pub behind_texts : {A : Type 0} → Bool → Result A RecordFault → Result A RecordFault
behind_texts texts (Ok a) = Ok a
behind_texts texts (Err faults.BadValue) = judge texts None
behind_texts texts (Err fault) = Err fault

-- the same with others in front
abbrev pub led : {A : Type 0} → List A → Result (List A) RecordFault → Result (List A) RecordFault
led front (Ok rest) = Ok (front ++ rest)
led front (Err fault) = Err fault

-- what a whole shape says
unfoldable pub contents : Shape → Result Node RecordFault
contents shape = judge (is_text shape) (node_of shape)
