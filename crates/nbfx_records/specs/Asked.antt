-- How many bytes are asked for where the bytes end within a part of a record: those of a text, of
-- bytes or of values whose number is known, to their last; else one more.
use Rattle.std.specs.Prelude.{◌≡◌, ℕ, ◌+◌, ◌*◌, ◌<◌, Bool, true, false, List, [], length, Some}
use Rattle.std.specs.{Prelude.None, Prelude.Option, Int.byte_len}
use Rattle.unit_streams.specs.{Front.begun, Parts.Reader}
use Rattle.multibyte_ints.specs.Integer.{int_at}
use Rattle.nbfx_values.specs.declared.content.ArrayKind.{ArrayKind}
use Rattle.nbfx_records.specs.declared.kinds.{Body.Body, LengthForm.LengthForm, TextKind.TextKind}
use Rattle.nbfx_records.specs.declared.kinds.Body.TheVariants.{Counted, Fixed, Named, Qualified}
use Rattle.nbfx_records.specs.declared.kinds.{NameForm.NameForm, RecordKind.RecordKind}
use Rattle.nbfx_records.specs.declared.kinds.NameForm.TheVariants.{Identified, Inlined}
use Rattle.nbfx_records.specs.declared.kinds.PrefixForm.{PrefixForm, TheVariants.Prefixed}
use Rattle.nbfx_records.specs.declared.nodes.NodePlace.{NodePlace, TheVariants.AfterRoot}
use Rattle.nbfx_records.specs.declared.nodes.RecordFault.{RecordFault}
use Rattle.nbfx_records.specs.Causes.{Behind, BehindMany}
use Rattle.nbfx_records.specs.Kinds.{array_kind, body_of, record_kind, width_of}
use Rattle.unit_streams.specs.Parts as parts
use Rattle.nbfx_records.specs.declared.kinds.RecordKind.TheVariants as records
use Rattle.nbfx_records.specs.declared.kinds.TextKind.TheVariants as texts
use Rattle.nbfx_records.specs.Shapes as shapes

-- A part that ends with its bytes asks for none. One byte, so many, and an integer:
abbrev pub nothing : List ℕ → ℕ → Type 0
nothing bytes m = ⊥

abbrev pub a_byte : List ℕ → ℕ → Type 0
a_byte bytes m = (bytes ≡ []) × (m ≡ 1)

abbrev pub some_bytes : ℕ → List ℕ → ℕ → Type 0
some_bytes n bytes m = (length bytes < n) × (m ≡ n)

abbrev pub an_integer : List ℕ → ℕ → Type 0
an_integer bytes m = (int_at bytes ≡ begun) × (m ≡ length bytes + 1)

-- a part, or one behind it where it is whole
pub data Either {A : Type 0} (reader : Reader A RecordFault) (first : List ℕ → ℕ → Type 0)
    (next : A → List ℕ → ℕ → Type 0) (bytes : List ℕ) (m : ℕ) : Type 0 where
  here : first bytes m → Either reader first next bytes m
  later : Behind reader next bytes m → Either reader first next bytes m

abbrev pub a_string : List ℕ → ℕ → Type 0
a_string = Either shapes.an_integer an_integer some_bytes

abbrev pub prefix_at : PrefixForm → List ℕ → ℕ → Type 0
prefix_at Prefixed = a_string
prefix_at _ = nothing

abbrev pub name_at : NameForm → List ℕ → ℕ → Type 0
name_at Inlined = a_string
name_at Identified = an_integer

abbrev pub a_length : LengthForm → List ℕ → ℕ → Type 0
a_length form =
    Either (parts.some_bytes (byte_len (shapes.width_in form)))
    (some_bytes (byte_len (shapes.width_in form))) (λ _. nothing)

abbrev pub counted_bytes : LengthForm → List ℕ → ℕ → Type 0
counted_bytes form = Either (shapes.a_length form) (a_length form) some_bytes

abbrev pub a_qualified : List ℕ → ℕ → Type 0
a_qualified = Either parts.a_byte a_byte (λ _. an_integer)

-- one value
abbrev pub body_at : Body → List ℕ → ℕ → Type 0
body_at (Fixed n) = some_bytes n
body_at (Counted form) = counted_bytes form
body_at Named = an_integer
body_at Qualified = a_qualified
body_at _ = nothing

abbrev pub scalar_at : TextKind → List ℕ → ℕ → Type 0
scalar_at kind = body_at (body_of kind)

-- a list
abbrev pub end_turn : Bool → Bool → List ℕ → ℕ → Type 0
end_turn may_close ends = nothing

abbrev pub text_turn : Bool → TextKind → Bool → List ℕ → ℕ → Type 0
text_turn may_close texts.EndList ends = nothing
text_turn may_close kind false = scalar_at kind
text_turn may_close kind true = nothing

abbrev pub turn_of : Bool → Option RecordKind → List ℕ → ℕ → Type 0
turn_of may_close (Some (records.Text kind ends)) = text_turn may_close kind ends
turn_of may_close _ = nothing

abbrev pub list_turn : Bool → List ℕ → ℕ → Type 0
list_turn may_close = Either parts.a_byte a_byte (λ byte. turn_of may_close (record_kind byte))

abbrev pub list_at : Bool → List ℕ → ℕ → Type 0
list_at may_close = BehindMany (shapes.list_turn may_close) (list_turn may_close)

-- attributes and declarations
abbrev pub text_value : TextKind → Bool → List ℕ → ℕ → Type 0
text_value kind true = nothing
text_value texts.StartList false = list_at false
text_value kind false = scalar_at kind

abbrev pub value_of_kind : Option RecordKind → List ℕ → ℕ → Type 0
value_of_kind (Some (records.Text kind ends)) = text_value kind ends
value_of_kind _ = nothing

abbrev pub value_at : List ℕ → ℕ → Type 0
value_at = Either parts.a_byte a_byte (λ byte. value_of_kind (record_kind byte))

abbrev pub attribute_at : PrefixForm → NameForm → List ℕ → ℕ → Type 0
attribute_at prefix name =
    Either (shapes.prefix_at prefix) (prefix_at prefix)
    (λ _. Either (shapes.name_at name) (name_at name) (λ _. value_at))

abbrev pub declaration_at : PrefixForm → NameForm → List ℕ → ℕ → Type 0
declaration_at prefix uri = Either (shapes.prefix_at prefix) (prefix_at prefix) (λ _. name_at uri)

-- elements and arrays
abbrev pub element_at : PrefixForm → NameForm → List ℕ → ℕ → Type 0
element_at prefix name = Either (shapes.prefix_at prefix) (prefix_at prefix) (λ _. name_at name)

abbrev pub array_part : Option RecordKind → List ℕ → ℕ → Type 0
array_part (Some (records.Attribute prefix name)) = attribute_at prefix name
array_part (Some (records.Declaration prefix uri)) = declaration_at prefix uri
array_part _ = nothing

abbrev pub array_turn : List ℕ → ℕ → Type 0
array_turn = Either parts.a_byte a_byte (λ byte. array_part (record_kind byte))

abbrev pub array_parts : List ℕ → ℕ → Type 0
array_parts = BehindMany shapes.array_turn array_turn

abbrev pub element_of : Option RecordKind → List ℕ → ℕ → Type 0
element_of (Some (records.Element prefix name)) = element_at prefix name
element_of _ = nothing

abbrev pub array_element : List ℕ → ℕ → Type 0
array_element = Either parts.a_byte a_byte (λ byte. element_of (record_kind byte))

abbrev pub array_values : ArrayKind → ℕ → List ℕ → ℕ → Type 0
array_values kind count = some_bytes (count * width_of kind)

abbrev pub counted_cells : ArrayKind → List ℕ → ℕ → Type 0
counted_cells kind = Either shapes.an_integer an_integer (array_values kind)

abbrev pub cells_of : Option ArrayKind → List ℕ → ℕ → Type 0
cells_of None = nothing
cells_of (Some kind) = counted_cells kind

abbrev pub array_cells : List ℕ → ℕ → Type 0
array_cells = Either parts.a_byte a_byte (λ byte. cells_of (array_kind byte))

abbrev pub array_at : List ℕ → ℕ → Type 0
array_at =
    Either shapes.array_element array_element
    (λ _. Either shapes.array_parts array_parts (λ _. array_cells))

-- a record
abbrev pub content_at : TextKind → Bool → List ℕ → ℕ → Type 0
content_at texts.StartList ends = list_at true
content_at kind ends = scalar_at kind

abbrev pub record_at : RecordKind → List ℕ → ℕ → Type 0
record_at records.EndElement = nothing
record_at records.Comment = a_string
record_at records.Array = array_at
record_at (records.Attribute prefix name) = attribute_at prefix name
record_at (records.Declaration prefix uri) = declaration_at prefix uri
record_at (records.Element prefix name) = element_at prefix name
record_at (records.Text kind ends) = content_at kind ends

abbrev pub unless_misplaced : Option RecordFault → RecordKind → List ℕ → ℕ → Type 0
unless_misplaced None kind = record_at kind
unless_misplaced (Some fault) kind = nothing

abbrev pub placed : NodePlace → Option RecordKind → List ℕ → ℕ → Type 0
placed AfterRoot kind = nothing
placed place None = nothing
placed place (Some kind) = unless_misplaced (shapes.misplaced place kind) kind

-- so many bytes are asked for in all, where they end within the record at their front
abbrev pub shape_at : NodePlace → List ℕ → ℕ → Type 0
shape_at place = Either parts.a_byte a_byte (λ byte. placed place (record_kind byte))
