-- The spelling in which each node is written: the shortest, with its texts in UTF-8.
use Rattle.std.specs.Prelude.{ℕ, ◌/◌, ◌%◌, ◌^◌, Bool, true, false, List, [], ◌∷◌, ◌++◌, length, ℤ}
use Rattle.std.specs.Prelude.{pos, if◌then◌else◌, nat_lt, unsigned_abs, flat_map}
use Rattle.std.specs.Int.{Width, cast_unsigned, to_le_bytes, w16, w32, w64, w8}
use Rattle.std.specs.Ordering.{int_eq}
use Rattle.multibyte_ints.specs.{Integer.shortest, Text.string_bytes_of}
use Rattle.nbfx_values.specs.{declared.content.ArrayKind.ArrayKind, Scalars.is_signed}
use Rattle.nbfx_values.specs.declared.scalars.{Dec.Dec, Scalar.Scalar}
use Rattle.nbfx_values.specs.declared.scalars.Scalar.TheVariants.{Bytes, DateTime, Decimal, Double}
use Rattle.nbfx_values.specs.declared.scalars.Scalar.TheVariants.{Float, Number, QName as NamedBy}
use Rattle.nbfx_values.specs.declared.scalars.Scalar.TheVariants.{Text as TextOf, TimeSpan, Truth}
use Rattle.nbfx_values.specs.declared.scalars.Scalar.TheVariants.{UniqueId, Uuid}
use Rattle.nbfx_records.specs.declared.kinds.{LengthForm.LengthForm, TextKind.TextKind}
use Rattle.nbfx_records.specs.declared.kinds.LengthForm.TheVariants.{FourBytes, OneByte, TwoBytes}
use Rattle.nbfx_records.specs.{declared.kinds.PrefixForm.PrefixForm, Kinds.text_kind_in}
use Rattle.nbfx_records.specs.declared.kinds.PrefixForm.TheVariants.{Lettered, Prefixed, Unprefixed}
use Rattle.nbfx_records.specs.declared.nodes.{ArrayNode.ArrayNode, Node.Node, RawValue.RawValue}
use Rattle.nbfx_records.specs.declared.nodes.{AttrNode.AttrNode, RawScalar.RawScalar}
use Rattle.nbfx_records.specs.declared.nodes.NameRef.{NameRef, TheVariants.Id, TheVariants.Inline}
use Rattle.nbfx_records.specs.declared.nodes.Node.TheVariants.{Array, Attribute, Comment, Element}
use Rattle.nbfx_records.specs.declared.nodes.Node.TheVariants.{EndElement, Text, Xmlns}
use Rattle.nbfx_records.specs.declared.nodes.RawScalar.TheVariants.{Dictionary, Known, QName}
use Rattle.nbfx_records.specs.declared.nodes.RawValue.TheVariants.{List as ListOf, One}
use Rattle.nbfx_records.specs.Shapes.{bytes_of, ScalarShape, width_in}
use Rattle.nbfx_records.specs.TypeBytes.{byte_of, form_of, is_letter}
use Rattle.nbfx_values.specs.declared.content.ArrayKind.TheVariants as arrays
use Rattle.nbfx_records.specs.declared.kinds.TextKind.TheVariants as texts
use Rattle.nbfx_records.specs.declared.kinds.RecordKind.TheVariants as records
use Rattle.nbfx_records.specs.declared.nodes.AttrNode.TheVariants as attribute_nodes

-- a text record: its kind, and what follows its type byte
pub record TextRecord : Type 0 where
  pub kind : TextKind
  pub body : List ℕ

-- of nothing, of a number of this width, and of one with a sign, as two's complement
abbrev pub bare : TextKind → TextRecord
bare kind = record { kind = kind; body = [] }

abbrev pub sized : TextKind → Width → ℕ → TextRecord
sized kind w n = record { kind = kind; body = to_le_bytes w n }

abbrev pub signed : TextKind → Width → ℤ → TextRecord
signed kind w n = sized kind w (cast_unsigned w n)

-- the smallest that holds a number
abbrev pub chosen_number : ℤ → TextRecord
chosen_number n =
    if int_eq n (pos 0) then bare texts.Zero
    else if int_eq n (pos 1) then bare texts.One
    else if is_signed 8 n then signed texts.Int8 w8 n
    else if is_signed 16 n then signed texts.Int16 w16 n
    else if is_signed 32 n then signed texts.Int32 w32 n
    else if is_signed 64 n then signed texts.Int64 w64 n
    else sized texts.UInt64 w64 (unsigned_abs n)

-- two bytes that say nothing, the scale, the sign, the upper 32 bits, the lower 64
abbrev pub decimal_body : Dec → List ℕ
decimal_body d =
    0 ∷ 0 ∷ d.scale ∷ (if d.negative then 128 else 0)
    ∷ (to_le_bytes w32 (d.magnitude / 2 ^ 64) ++ to_le_bytes w64 (d.magnitude % 2 ^ 64))

-- the least width that holds a length
abbrev pub least_form : ℕ → LengthForm
least_form n =
    if nat_lt n (2 ^ 8) then OneByte else if nat_lt n (2 ^ 16) then TwoBytes else FourBytes

abbrev pub characters : LengthForm → TextKind
characters OneByte = texts.Chars8
characters TwoBytes = texts.Chars16
characters FourBytes = texts.Chars32

abbrev pub binary : LengthForm → TextKind
binary OneByte = texts.Bytes8
binary TwoBytes = texts.Bytes16
binary FourBytes = texts.Bytes32

-- a length, and as many bytes
abbrev pub counted_body : LengthForm → List ℕ → List ℕ
counted_body form content = to_le_bytes (width_in form) (length content) ++ content

abbrev pub with_length : (LengthForm → TextKind) → List ℕ → TextRecord
with_length kind content =
    let form = least_form (length content) in
    record { kind = kind form; body = counted_body form content }

abbrev pub chosen_text : List ℕ → TextRecord
chosen_text [] = bare texts.Empty
chosen_text s = with_length characters s

-- of a value that names no string; none is a QName
abbrev pub chosen_known : Scalar → TextRecord
chosen_known (Number n) = chosen_number n
chosen_known (Truth false) = bare texts.False
chosen_known (Truth true) = bare texts.True
chosen_known (Float bits) = sized texts.Float w32 bits
chosen_known (Double bits) = sized texts.Double w64 bits
chosen_known (Decimal d) = record { kind = texts.Decimal; body = decimal_body d }
chosen_known (DateTime pattern) = sized texts.DateTime w64 pattern
chosen_known (TimeSpan span) = signed texts.TimeSpan w64 span
chosen_known (TextOf s) = chosen_text s
chosen_known (Bytes content) = with_length binary content
chosen_known (UniqueId identifier) = record { kind = texts.UniqueId; body = identifier }
chosen_known (Uuid identifier) = record { kind = texts.Uuid; body = identifier }
chosen_known (NamedBy letter name) = bare texts.QNameDictionary

abbrev pub chosen_scalar : RawScalar → TextRecord
chosen_scalar (Known value) = chosen_known value
chosen_scalar (Dictionary id) = record { kind = texts.Dictionary; body = shortest id }
chosen_scalar (QName letter id) =
    record { kind = texts.QNameDictionary; body = letter ∷ shortest id }

-- the bytes of a text record, which may end the element that holds it
abbrev pub record_bytes : Bool → TextRecord → List ℕ
record_bytes ends it = byte_of (records.Text it.kind ends) ∷ it.body

abbrev pub scalar_bytes : Bool → RawScalar → List ℕ
scalar_bytes ends value = record_bytes ends (chosen_scalar value)

-- a list ends the element at its own end
abbrev pub list_start : List ℕ
list_start = byte_of (records.Text texts.StartList false) ∷ []

abbrev pub list_end : Bool → List ℕ
list_end ends = byte_of (records.Text texts.EndList ends) ∷ []

abbrev pub value_bytes : Bool → RawValue → List ℕ
value_bytes ends (One value) = scalar_bytes ends value
value_bytes ends (ListOf values) =
    list_start ++ (flat_map (scalar_bytes false) values ++ list_end ends)

-- no prefix takes the short form and a letter from a to z its own; a declaration has none for
-- letters
abbrev pub prefix_form : List ℕ → PrefixForm
prefix_form [] = Unprefixed
prefix_form (c ∷ []) = if is_letter c then Lettered c else Prefixed
prefix_form _ = Prefixed

abbrev pub declared_form : List ℕ → PrefixForm
declared_form [] = Unprefixed
declared_form _ = Prefixed

-- what follows the type byte of it
abbrev pub prefix_bytes : PrefixForm → List ℕ → List ℕ
prefix_bytes Prefixed prefix = string_bytes_of prefix
prefix_bytes _ prefix = []

abbrev pub name_bytes : NameRef → List ℕ
name_bytes (Inline s) = string_bytes_of s
name_bytes (Id id) = shortest id

-- a prefix and a name
abbrev pub named_bytes : PrefixForm → List ℕ → NameRef → List ℕ
named_bytes form prefix name = prefix_bytes form prefix ++ name_bytes name

abbrev pub element_bytes : List ℕ → NameRef → List ℕ
element_bytes prefix name =
    byte_of (records.Element (prefix_form prefix) (form_of name))
    ∷ named_bytes (prefix_form prefix) prefix name

abbrev pub declaration_bytes : List ℕ → NameRef → List ℕ
declaration_bytes prefix uri =
    byte_of (records.Declaration (declared_form prefix) (form_of uri))
    ∷ named_bytes (declared_form prefix) prefix uri

-- a value follows
abbrev pub attribute_start : List ℕ → NameRef → List ℕ
attribute_start prefix name =
    byte_of (records.Attribute (prefix_form prefix) (form_of name))
    ∷ named_bytes (prefix_form prefix) prefix name

abbrev pub attribute_bytes : List ℕ → NameRef → RawValue → List ℕ
attribute_bytes prefix name value = attribute_start prefix name ++ value_bytes false value

abbrev pub part_bytes : AttrNode → List ℕ
part_bytes (attribute_nodes.Attribute prefix name value) = attribute_bytes prefix name value
part_bytes (attribute_nodes.Xmlns prefix uri) = declaration_bytes prefix uri

-- a value of an array, as its text record has it behind the type byte
abbrev pub cell_bytes : ArrayKind → Scalar → List ℕ
cell_bytes arrays.Bool (Truth truth) = (if truth then 1 else 0) ∷ []
cell_bytes arrays.Int16 (Number n) = to_le_bytes w16 (cast_unsigned w16 n)
cell_bytes arrays.Int32 (Number n) = to_le_bytes w32 (cast_unsigned w32 n)
cell_bytes arrays.Int64 (Number n) = to_le_bytes w64 (cast_unsigned w64 n)
cell_bytes _ value = (chosen_known value).body

-- their type byte, how many there are, and these
abbrev pub counted_cells : ArrayKind → List Scalar → List ℕ
counted_cells kind values =
    byte_of (records.Text (text_kind_in kind) true)
    ∷ (shortest (length values) ++ flat_map (cell_bytes kind) values)

-- the end of an element
abbrev pub end_bytes : List ℕ
end_bytes = byte_of records.EndElement ∷ []

-- An array begins with a byte of its own; behind its element and that element's attributes stand
-- their end and the values.
abbrev pub array_start : List ℕ
array_start = byte_of records.Array ∷ []

abbrev pub array_values_bytes : ArrayKind → List Scalar → List ℕ
array_values_bytes kind values = end_bytes ++ counted_cells kind values

abbrev pub array_bytes : ArrayNode → List ℕ
array_bytes a =
    array_start
    ++ (element_bytes a.prefix a.name
    ++ (flat_map part_bytes a.attrs ++ array_values_bytes a.kind a.values))

abbrev pub comment_bytes : List ℕ → List ℕ
comment_bytes s = byte_of records.Comment ∷ string_bytes_of s

abbrev pub chosen_bytes : Node → List ℕ
chosen_bytes EndElement = end_bytes
chosen_bytes (Comment s) = comment_bytes s
chosen_bytes (Array a) = array_bytes a
chosen_bytes (Attribute prefix name value) = attribute_bytes prefix name value
chosen_bytes (Xmlns prefix uri) = declaration_bytes prefix uri
chosen_bytes (Element prefix name) = element_bytes prefix name
chosen_bytes (Text value ends) = value_bytes ends value

-- the table of a payload's own strings: how many bytes they have, and then they
abbrev pub table_bytes : List (List ℕ) → List ℕ
table_bytes texts =
    let content = flat_map string_bytes_of texts in shortest (length content) ++ content

-- a text that is spelled in UTF-16
abbrev pub is_utf16 : ScalarShape → Bool
is_utf16 (bytes_of texts.UnicodeChars8 bytes) = true
is_utf16 (bytes_of texts.UnicodeChars16 bytes) = true
is_utf16 (bytes_of texts.UnicodeChars32 bytes) = true
is_utf16 _ = false
