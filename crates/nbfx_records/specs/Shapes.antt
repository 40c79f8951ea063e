-- What stands at the front of some bytes, as the parts of a record: type bytes and lengths are
-- judged where they are read, and no text or value yet.
use Rattle.std.specs.Prelude.{ℕ, ◌*◌, ◌^◌, Bool, true, false, not, ◌&&◌, ◌||◌, List, [], ◌∷◌}
use Rattle.std.specs.Prelude.{if◌then◌else◌, nat_le, ◌==◌, Some, None, Option}
use Rattle.std.specs.Int.{Width, byte_len, from_le_bytes, w16, w32, w8}
use Rattle.unit_streams.specs.{Front.wrong, Parts.some_bytes, Parts.stop, Parts.Turn, Parts.◌>>=◌}
use Rattle.unit_streams.specs.Parts.{a_byte, given, Many, many, more, Reader, refuse, seen}
use Rattle.multibyte_ints.specs.Integer.{int_at}
use Rattle.nbfx_values.specs.declared.content.ArrayKind.{ArrayKind}
use Rattle.nbfx_records.specs.declared.kinds.Body.{Body, TheVariants.Named, TheVariants.Qualified}
use Rattle.nbfx_records.specs.declared.kinds.Body.TheVariants.{Counted, Ending, Fixed, Listed}
use Rattle.nbfx_records.specs.declared.kinds.{LengthForm.LengthForm, NameForm.NameForm}
use Rattle.nbfx_records.specs.declared.kinds.LengthForm.TheVariants.{FourBytes, OneByte, TwoBytes}
use Rattle.nbfx_records.specs.declared.kinds.NameForm.TheVariants.{Identified, Inlined}
use Rattle.nbfx_records.specs.declared.kinds.{PrefixForm.PrefixForm, TextKind.TextKind}
use Rattle.nbfx_records.specs.declared.kinds.PrefixForm.TheVariants.{Lettered, Prefixed, Unprefixed}
use Rattle.nbfx_records.specs.declared.kinds.RecordKind.{RecordKind}
use Rattle.nbfx_records.specs.declared.nodes.NameRef.{NameRef, TheVariants.Id, TheVariants.Inline}
use Rattle.nbfx_records.specs.declared.nodes.{NodePlace.NodePlace, RecordFault.RecordFault}
use Rattle.nbfx_records.specs.declared.nodes.NodePlace.TheVariants.{AfterRoot, BeforeRoot, Within}
use Rattle.nbfx_records.specs.Kinds.{array_kind, body_of, record_kind, width_of}
use Rattle.nbfx_records.specs.declared.kinds.TextKind.TheVariants as texts
use Rattle.nbfx_records.specs.declared.nodes.RecordFault.TheVariants as faults
use Rattle.nbfx_records.specs.declared.kinds.RecordKind.TheVariants as records

-- one value, whose bytes aren't judged
pub data ScalarShape : Type 0 where
  -- the bytes of a kind
  bytes_of : TextKind → List ℕ → ScalarShape
  -- an identifier
  named_by : ℕ → ScalarShape
  -- a letter and an identifier
  qualified_by : ℕ → ℕ → ScalarShape

pub data ValueShape : Type 0 where
  one : ScalarShape → ValueShape
  several : List ScalarShape → ValueShape

-- a declaration or an attribute
pub data AttributeShape : Type 0 where
  attributes : (prefix : List ℕ) (name : NameRef) → ValueShape → AttributeShape
  declares : (prefix : List ℕ) (uri : NameRef) → AttributeShape

-- a prefix and a name
pub record NamedShape : Type 0 where
  pub prefix : List ℕ
  pub name : NameRef

-- the values of an array, in so many bytes
pub record CellsShape : Type 0 where
  pub kind : ArrayKind
  pub count : ℕ
  pub bytes : List ℕ

pub record ArrayShape : Type 0 where
  pub prefix : List ℕ
  pub name : NameRef
  pub attributes : List AttributeShape
  pub kind : ArrayKind
  pub count : ℕ
  -- of all its values
  pub bytes : List ℕ

-- a record
pub data Shape : Type 0 where
  ends_element : Shape
  comments : List ℕ → Shape
  begins_element : (prefix : List ℕ) (name : NameRef) → Shape
  adds : AttributeShape → Shape
  -- and whether the element that holds it ends
  has_text : ValueShape → Bool → Shape
  repeats : ArrayShape → Shape

-- an integer
abbrev pub an_integer : Reader ℕ RecordFault
an_integer bytes = seen (λ n. n) (λ _. faults.BadInt) (int_at bytes)

-- a string, which isn't judged yet
abbrev pub a_string : Reader (List ℕ) RecordFault
a_string = an_integer >>= some_bytes

abbrev pub prefix_at : PrefixForm → Reader (List ℕ) RecordFault
prefix_at Unprefixed = given []
prefix_at (Lettered letter) = given (letter ∷ [])
prefix_at Prefixed = a_string

abbrev pub name_at : NameForm → Reader NameRef RecordFault
name_at Inlined bytes = seen Inline (λ fault. fault) (a_string bytes)
name_at Identified bytes = seen Id (λ fault. fault) (an_integer bytes)

-- how long a length is
abbrev pub width_in : LengthForm → Width
width_in OneByte = w8
width_in TwoBytes = w16
width_in FourBytes = w32

-- one of four bytes has a sign
abbrev pub is_negative : LengthForm → ℕ → Bool
is_negative FourBytes n = nat_le (2 ^ 31) n
is_negative _ n = false

-- the length that such bytes say, the lowest first
abbrev pub length_of : LengthForm → List ℕ → ℕ
length_of form said = from_le_bytes (width_in form) said

-- where it isn't negative
abbrev pub said_length : LengthForm → List ℕ → Option ℕ
said_length form said =
    if is_negative form (length_of form said) then None else Some (length_of form said)

-- a thing of no bytes, or what is wrong where there is none
abbrev pub given_or : {A : Type 0} → RecordFault → Option A → Reader A RecordFault
given_or fault None = refuse fault
given_or fault (Some a) = given a

-- a length
abbrev pub a_length : LengthForm → Reader ℕ RecordFault
a_length form =
    some_bytes (byte_len (width_in form)) >>= λ said. given_or faults.BadInt (said_length form said)

-- a length, and as many bytes as it says
abbrev pub counted_bytes : LengthForm → Reader (List ℕ) RecordFault
counted_bytes form = a_length form >>= some_bytes

-- a letter, and an identifier
abbrev pub a_qualified : Reader ScalarShape RecordFault
a_qualified =
    a_byte >>= λ letter bytes. seen (qualified_by letter) (λ fault. fault) (an_integer bytes)

-- what follows the type byte of one value
abbrev pub body_at : TextKind → Body → Reader ScalarShape RecordFault
body_at kind (Fixed n) bytes = seen (bytes_of kind) (λ fault. fault) (some_bytes n bytes)
body_at kind (Counted form) bytes = seen (bytes_of kind) (λ fault. fault) (counted_bytes form bytes)
body_at kind Named bytes = seen named_by (λ fault. fault) (an_integer bytes)
body_at kind Qualified bytes = a_qualified bytes
-- none of these is one value
body_at kind Listed bytes = wrong faults.OutOfPlace 0
body_at kind Ending bytes = wrong faults.OutOfPlace 0

abbrev pub scalar_at : TextKind → Reader ScalarShape RecordFault
scalar_at kind = body_at kind (body_of kind)

-- a list's end, which where it may end the element too tells that
abbrev pub end_turn : Bool → Bool → Reader (Turn ScalarShape Bool) RecordFault
end_turn may_close false = given (stop false)
end_turn may_close true = if may_close then given (stop true) else refuse faults.OutOfPlace

-- a list goes on with a plain text that is no list, or ends
abbrev pub text_turn : Bool → TextKind → Bool → Reader (Turn ScalarShape Bool) RecordFault
text_turn may_close texts.EndList ends = end_turn may_close ends
text_turn may_close kind false = λ bytes. seen more (λ fault. fault) (scalar_at kind bytes)
text_turn may_close kind true = refuse faults.OutOfPlace

abbrev pub turn_of : Bool → Option RecordKind → Reader (Turn ScalarShape Bool) RecordFault
turn_of may_close None = refuse faults.UnknownNode
turn_of may_close (Some (records.Text kind ends)) = text_turn may_close kind ends
turn_of may_close (Some _) = refuse faults.OutOfPlace

abbrev pub list_turn : Bool → Reader (Turn ScalarShape Bool) RecordFault
list_turn may_close = a_byte >>= λ byte. turn_of may_close (record_kind byte)

abbrev pub list_at : Bool → Reader (Many ScalarShape Bool) RecordFault
list_at may_close = many (list_turn may_close)

-- what follows the type byte of an attribute's value, which is a plain text
abbrev pub text_value : TextKind → Bool → Reader ValueShape RecordFault
text_value kind true = refuse faults.OutOfPlace
text_value texts.StartList false =
    λ bytes. seen (λ list. several list.items) (λ fault. fault) (list_at false bytes)
text_value kind false = λ bytes. seen one (λ fault. fault) (scalar_at kind bytes)

abbrev pub value_of_kind : Option RecordKind → Reader ValueShape RecordFault
value_of_kind None = refuse faults.UnknownNode
value_of_kind (Some (records.Text kind ends)) = text_value kind ends
value_of_kind (Some _) = refuse faults.OutOfPlace

abbrev pub value_at : Reader ValueShape RecordFault
value_at = a_byte >>= λ byte. value_of_kind (record_kind byte)

abbrev pub attribute_at : PrefixForm → NameForm → Reader AttributeShape RecordFault
attribute_at prefix name =
    prefix_at prefix >>= λ p. name_at name >>= λ n bytes.
    seen (attributes p n) (λ fault. fault) (value_at bytes)

abbrev pub declaration_at : PrefixForm → NameForm → Reader AttributeShape RecordFault
declaration_at prefix uri =
    prefix_at prefix >>= λ p bytes. seen (declares p) (λ fault. fault) (name_at uri bytes)

-- what is between an array's element and its values: a declaration or an attribute, or the end of
-- these
abbrev pub array_part : Option RecordKind → Reader (Turn AttributeShape (Unit {0})) RecordFault
array_part None = refuse faults.UnknownNode
array_part (Some (records.Attribute prefix name)) =
    λ bytes. seen more (λ fault. fault) (attribute_at prefix name bytes)
array_part (Some (records.Declaration prefix uri)) =
    λ bytes. seen more (λ fault. fault) (declaration_at prefix uri bytes)
array_part (Some records.EndElement) = given (stop tt)
array_part (Some _) = refuse faults.BadArray

abbrev pub array_turn : Reader (Turn AttributeShape (Unit {0})) RecordFault
array_turn = a_byte >>= λ byte. array_part (record_kind byte)

abbrev pub array_parts : Reader (Many AttributeShape (Unit {0})) RecordFault
array_parts = many array_turn

-- an element, and the one that an array repeats
abbrev pub named_shape : List ℕ → NameRef → NamedShape
named_shape p n = record { prefix = p; name = n }

abbrev pub element_at : PrefixForm → NameForm → Reader NamedShape RecordFault
element_at prefix name =
    prefix_at prefix >>= λ p bytes. seen (named_shape p) (λ fault. fault) (name_at name bytes)

abbrev pub element_of : Option RecordKind → Reader NamedShape RecordFault
element_of None = refuse faults.UnknownNode
element_of (Some (records.Element prefix name)) = element_at prefix name
element_of (Some _) = refuse faults.BadArray

abbrev pub array_element : Reader NamedShape RecordFault
array_element = a_byte >>= λ byte. element_of (record_kind byte)

-- the bytes of so many values, of which there is one at least
abbrev pub array_values : ArrayKind → ℕ → Reader (List ℕ) RecordFault
array_values kind count =
    if count == 0 then refuse faults.BadArray else some_bytes (count * width_of kind)

-- how many values there are, and then these
abbrev pub cells_shape : ArrayKind → ℕ → List ℕ → CellsShape
cells_shape kind count values = record { kind = kind; count = count; bytes = values }

abbrev pub counted_cells : ArrayKind → Reader CellsShape RecordFault
counted_cells kind =
    an_integer >>= λ count bytes.
    seen (cells_shape kind count) (λ fault. fault) (array_values kind count bytes)

abbrev pub cells_of : Option ArrayKind → Reader CellsShape RecordFault
cells_of None = refuse faults.BadArray
cells_of (Some kind) = counted_cells kind

abbrev pub array_cells : Reader CellsShape RecordFault
array_cells = a_byte >>= λ byte. cells_of (array_kind byte)

-- what follows an array's type byte
abbrev pub array_shape : NamedShape → List AttributeShape → CellsShape → ArrayShape
array_shape it parts cells =
    record {
      prefix = it.prefix;
      name = it.name;
      attributes = parts;
      kind = cells.kind;
      count = cells.count;
      bytes = cells.bytes;
    }

unfoldable pub array_at : Reader ArrayShape RecordFault
array_at =
    array_element >>= λ it. array_parts >>= λ parts bytes.
    seen (array_shape it parts.items) (λ fault. fault) (array_cells bytes)

-- what follows the type byte of a text, and whether it ends the element that holds it
abbrev pub content_at : TextKind → Bool → Reader Shape RecordFault
content_at texts.StartList ends bytes =
    seen (λ list. has_text (several list.items) list.last) (λ fault. fault) (list_at true bytes)
content_at kind ends bytes =
    seen (λ scalar. has_text (one scalar) ends) (λ fault. fault) (scalar_at kind bytes)

-- what follows the type byte of a record
unfoldable pub record_at : RecordKind → Reader Shape RecordFault
record_at records.EndElement = given ends_element
record_at records.Comment = λ bytes. seen comments (λ fault. fault) (a_string bytes)
record_at records.Array = λ bytes. seen repeats (λ fault. fault) (array_at bytes)
record_at (records.Attribute prefix name) =
    λ bytes. seen adds (λ fault. fault) (attribute_at prefix name bytes)
record_at (records.Declaration prefix uri) =
    λ bytes. seen adds (λ fault. fault) (declaration_at prefix uri bytes)
record_at (records.Element prefix name) =
    λ bytes.
    seen (λ (it : NamedShape). begins_element it.prefix it.name) (λ fault. fault)
    (element_at prefix name bytes)
record_at (records.Text kind ends) = content_at kind ends

-- a record that opens an element
abbrev pub opens : RecordKind → Bool
opens (records.Element _ _) = true
opens records.Array = true
opens _ = false

-- one that stands right behind the start of an element
abbrev pub is_attribute : RecordKind → Bool
is_attribute (records.Attribute _ _) = true
is_attribute (records.Declaration _ _) = true
is_attribute _ = false

-- the end of a list, outside one
abbrev pub ends_list : RecordKind → Bool
ends_list (records.Text texts.EndList ends) = true
ends_list _ = false

abbrev pub is_element : RecordKind → Bool
is_element (records.Element _ _) = true
is_element _ = false

-- why a record may not come at a place, by its type byte; in an array's element the depth isn't
-- judged again
abbrev pub misplaced : NodePlace → RecordKind → Option RecordFault
misplaced BeforeRoot kind = if is_element kind then None else Some faults.OutOfPlace
misplaced (Within attribute_may deeper) kind =
    if (is_attribute kind && not attribute_may) || ends_list kind then Some faults.OutOfPlace
    else if opens kind && not deeper then Some faults.TooDeep
    else None
misplaced AfterRoot kind = Some faults.TrailingBytes

abbrev pub unless_misplaced : Option RecordFault → RecordKind → Reader Shape RecordFault
unless_misplaced None kind = record_at kind
unless_misplaced (Some fault) kind = refuse fault

abbrev pub placed : NodePlace → Option RecordKind → Reader Shape RecordFault
placed AfterRoot kind = refuse faults.TrailingBytes
placed place None = refuse faults.UnknownNode
placed place (Some kind) = unless_misplaced (misplaced place kind) kind

-- the record at the front of some bytes, where it may come at this place
unfoldable pub shape_at : NodePlace → Reader Shape RecordFault
shape_at place = a_byte >>= λ byte. placed place (record_kind byte)
