-- What may be wrong with a record: a type byte or a number in it, once those before are whole; or a
-- text or a value of one that is whole.
use Rattle.std.specs.Prelude.{◌≡◌, ℕ, ◌+◌, ◌%◌, ◌^◌, ◌<◌, ◌≤◌, Bool, true, false, not, ◌&&◌, ◌≢◌}
use Rattle.std.specs.Prelude.{◌⊎◌, List, [], ◌∷◌, ◌++◌, length, take, drop, if◌then◌else◌}
use Rattle.std.specs.Prelude.{slice_index, Some, None, IsUtf8, Contains, Option, flat_map, ⊤}
use Rattle.std.specs.{Char.Utf16.has_unpaired_surrogate, Int.from_le_bytes, Int.w32}
use Rattle.unit_streams.specs.{Front.whole, Parts.a_byte, Parts.more, Parts.Reader, Parts.Turn}
use Rattle.multibyte_ints.specs.{Integer.int_at, Laws.FifthIsAbove}
use Rattle.nbfx_values.specs.declared.content.ArrayKind.{ArrayKind}
use Rattle.nbfx_records.specs.declared.kinds.{Body.Body, LengthForm.TheVariants.FourBytes}
use Rattle.nbfx_records.specs.declared.kinds.Body.TheVariants.{Counted, Named, Qualified}
use Rattle.nbfx_records.specs.declared.kinds.{NameForm.NameForm, RecordKind.RecordKind}
use Rattle.nbfx_records.specs.declared.kinds.PrefixForm.{PrefixForm, TheVariants.Prefixed}
use Rattle.nbfx_records.specs.declared.{kinds.TextKind.TextKind, nodes.RecordFault.RecordFault}
use Rattle.nbfx_records.specs.declared.nodes.NameRef.{NameRef, TheVariants.Id, TheVariants.Inline}
use Rattle.nbfx_records.specs.declared.nodes.NodePlace.{NodePlace, TheVariants.AfterRoot}
use Rattle.nbfx_records.specs.Contents.{cells, is_chars, units_of}
use Rattle.nbfx_records.specs.Kinds.{array_kind, body_of, record_kind, text_kind_in, width_of}
use Rattle.nbfx_records.specs.Shapes.{adds, array_element, array_parts, array_turn, ArrayShape}
use Rattle.nbfx_records.specs.Shapes.{attributes, AttributeShape, begins_element, bytes_of}
use Rattle.nbfx_records.specs.Shapes.{comments, declares, ends_element, has_text, list_turn}
use Rattle.nbfx_records.specs.Shapes.{misplaced, name_at, one, prefix_at, qualified_by, repeats}
use Rattle.nbfx_records.specs.Shapes.{ScalarShape, several, Shape, shape_at, ValueShape}
use Rattle.nbfx_records.specs.declared.kinds.RecordKind.TheVariants as records
use Rattle.nbfx_records.specs.declared.kinds.TextKind.TheVariants as texts
use Rattle.nbfx_records.specs.declared.nodes.RecordFault.TheVariants as faults

-- what can be wrong in the structure of a record
pub data Part : Type 0 where
  -- its type byte, at a place
  record_type : NodePlace → Part
  -- that of an attribute's value
  value_type : Part
  -- in a list that of a value or of the end, which may be the element's end too
  item_type : Bool → Part
  -- in an array that of the element, of an attribute or the end of these, of the values
  element_type : Part
  part_type : Part
  cells_type : Part
  -- in an array the number of values
  count : Part
  -- any other integer
  integer : Part
  -- a length of four bytes
  long_length : Part

-- Why a type byte may not come, by the record that it begins: one byte may not begin a record at a
-- place,
abbrev pub record_refused : NodePlace → Option RecordKind → Option RecordFault
record_refused AfterRoot kind = Some faults.TrailingBytes
record_refused place None = Some faults.UnknownNode
record_refused place (Some kind) = misplaced place kind

-- nor an attribute's value, which is a plain text, a list too,
abbrev pub value_refused : Option RecordKind → Option RecordFault
value_refused None = Some faults.UnknownNode
value_refused (Some (records.Text texts.EndList ends)) = Some faults.OutOfPlace
value_refused (Some (records.Text kind ends)) = if ends then Some faults.OutOfPlace else None
value_refused (Some _) = Some faults.OutOfPlace

-- nor one thing of a list, which is a plain text that is no list, or the end,
abbrev pub item_refused : Bool → Option RecordKind → Option RecordFault
item_refused may_close None = Some faults.UnknownNode
item_refused may_close (Some (records.Text texts.EndList ends)) =
    if ends && not may_close then Some faults.OutOfPlace else None
item_refused may_close (Some (records.Text texts.StartList ends)) = Some faults.OutOfPlace
item_refused may_close (Some (records.Text kind ends)) =
    if ends then Some faults.OutOfPlace else None
item_refused may_close (Some _) = Some faults.OutOfPlace

-- nor an array's element, an attribute of it or their end, its values
abbrev pub element_refused : Option RecordKind → Option RecordFault
element_refused None = Some faults.UnknownNode
element_refused (Some (records.Element _ _)) = None
element_refused (Some _) = Some faults.BadArray

abbrev pub part_refused : Option RecordKind → Option RecordFault
part_refused None = Some faults.UnknownNode
part_refused (Some (records.Attribute _ _)) = None
part_refused (Some (records.Declaration _ _)) = None
part_refused (Some records.EndElement) = None
part_refused (Some _) = Some faults.BadArray

abbrev pub cells_refused : Option ArrayKind → Option RecordFault
cells_refused None = Some faults.BadArray
cells_refused (Some kind) = None

abbrev pub type_refused : Part → ℕ → Option RecordFault
type_refused (record_type place) byte = record_refused place (record_kind byte)
type_refused value_type byte = value_refused (record_kind byte)
type_refused (item_type may_close) byte = item_refused may_close (record_kind byte)
type_refused element_type byte = element_refused (record_kind byte)
type_refused part_type byte = part_refused (record_kind byte)
type_refused cells_type byte = cells_refused (array_kind byte)
type_refused _ byte = None

-- a type byte is refused
abbrev pub IsRefused : Part → RecordFault → List ℕ → ℕ → Type 0
IsRefused part fault [] m = ⊥
IsRefused part fault (byte ∷ rest) m = (m ≡ 1) × (type_refused part byte ≡ Some fault)

-- an integer's fifth byte is above 7
abbrev pub IsBadInt : RecordFault → List ℕ → ℕ → Type 0
IsBadInt fault bytes m = (fault ≡ faults.BadInt) × (m ≡ 5) × FifthIsAbove bytes

-- a number of values is none, where it is whole
abbrev pub IsNone : RecordFault → List ℕ → ℕ → Type 0
IsNone fault bytes m = (fault ≡ faults.BadArray) × (int_at bytes ≡ whole 0 m)

-- a length of four bytes is negative
abbrev pub IsNegative : RecordFault → List ℕ → ℕ → Type 0
IsNegative fault bytes m =
    (fault ≡ faults.BadInt) × (m ≡ 4) × (4 ≤ length bytes)
    × (2 ^ 31 ≤ from_le_bytes w32 (take 4 bytes))

-- a part is wrong, as its first m bytes show
abbrev pub IsWrongPart : Part → RecordFault → List ℕ → ℕ → Type 0
IsWrongPart count fault bytes m = IsBadInt fault bytes m ⊎ IsNone fault bytes m
IsWrongPart integer fault bytes m = IsBadInt fault bytes m
IsWrongPart long_length fault bytes m = IsNegative fault bytes m
IsWrongPart part fault bytes m = IsRefused part fault bytes m

-- Where in a record each part comes. Behind the first k of some bytes one comes at once,
abbrev pub Now : Part → Part → ℕ → Type 0
Now due part k = (part ≡ due) × (k ≡ 0)

-- or behind a whole thing, as next says by what that is,
abbrev pub Behind : {A : Type 0} → Reader A RecordFault → (A → List ℕ → ℕ → Type 0) → List ℕ → ℕ
    → Type 0
Behind {A} reader next bytes k =
    (a : A) × (j : ℕ) × (i : ℕ) × (reader bytes ≡ whole a j) × (k ≡ j + i) × next a (drop j bytes) i

-- or behind whole things one behind the other
abbrev pub BehindThese : {A B : Type 0} → Reader (Turn A B) RecordFault → (List ℕ → ℕ → Type 0)
    → List A → List ℕ → ℕ → Type 0
BehindThese turn next [] bytes k = next bytes k
BehindThese turn next (a ∷ items) bytes k =
    (j : ℕ) × (i : ℕ) × (turn bytes ≡ whole (more a) j) × (k ≡ j + i)
    × BehindThese turn next items (drop j bytes) i

abbrev pub BehindMany : {A B : Type 0} → Reader (Turn A B) RecordFault → (List ℕ → ℕ → Type 0)
    → List ℕ → ℕ → Type 0
BehindMany {A} turn next bytes k = (items : List A) × BehindThese turn next items bytes k

-- in a prefix, and in a prefix and a name
abbrev pub InPrefix : PrefixForm → Part → ℕ → Type 0
InPrefix Prefixed part k = Now integer part k
InPrefix _ part k = ⊥

abbrev pub InNamed : PrefixForm → Part → List ℕ → ℕ → Type 0
InNamed prefix part bytes k =
    InPrefix prefix part k ⊎ Behind (prefix_at prefix) (λ _ rest i. Now integer part i) bytes k

-- in one value
abbrev pub InBody : Body → Part → List ℕ → ℕ → Type 0
InBody (Counted FourBytes) part bytes k = Now long_length part k
InBody Named part bytes k = Now integer part k
InBody Qualified part bytes k =
    Behind (a_byte {R = RecordFault}) (λ _ rest i. Now integer part i) bytes k
InBody _ part bytes k = ⊥

-- in a list
abbrev pub InItem : Option RecordKind → Part → List ℕ → ℕ → Type 0
InItem (Some (records.Text kind false)) part bytes k = InBody (body_of kind) part bytes k
InItem _ part bytes k = ⊥

abbrev pub InTurn : Bool → Part → List ℕ → ℕ → Type 0
InTurn may_close part bytes k =
    Now (item_type may_close) part k
    ⊎ Behind (a_byte {R = RecordFault}) (λ byte rest i. InItem (record_kind byte) part rest i) bytes
    k

abbrev pub InList : Bool → Part → List ℕ → ℕ → Type 0
InList may_close part bytes k = BehindMany (list_turn may_close) (InTurn may_close part) bytes k

-- in a text, behind its type byte
abbrev pub InText : Bool → TextKind → Part → List ℕ → ℕ → Type 0
InText may_close texts.StartList part bytes k = InList may_close part bytes k
InText may_close kind part bytes k = InBody (body_of kind) part bytes k

-- in an attribute: in its prefix and name, or in its value
abbrev pub InValueOf : Option RecordKind → Part → List ℕ → ℕ → Type 0
InValueOf (Some (records.Text kind false)) part bytes k = InText false kind part bytes k
InValueOf _ part bytes k = ⊥

abbrev pub InValue : Part → List ℕ → ℕ → Type 0
InValue part bytes k =
    Now value_type part k
    ⊎ Behind (a_byte {R = RecordFault}) (λ byte rest i. InValueOf (record_kind byte) part rest i)
    bytes k

abbrev pub InAttribute : PrefixForm → NameForm → Part → List ℕ → ℕ → Type 0
InAttribute prefix name part bytes k =
    InPrefix prefix part k
    ⊎ Behind (prefix_at prefix)
    (λ _ rest i. Now integer part i
    ⊎ Behind (name_at name) (λ _ behind h. InValue part behind h) rest i) bytes k

-- in an array: in its element, its attributes, its values
abbrev pub InElementOf : Option RecordKind → Part → List ℕ → ℕ → Type 0
InElementOf (Some (records.Element prefix name)) part bytes k = InNamed prefix part bytes k
InElementOf _ part bytes k = ⊥

abbrev pub InElement : Part → List ℕ → ℕ → Type 0
InElement part bytes k =
    Now element_type part k
    ⊎ Behind (a_byte {R = RecordFault}) (λ byte rest i. InElementOf (record_kind byte) part rest i)
    bytes k

abbrev pub InPartOf : Option RecordKind → Part → List ℕ → ℕ → Type 0
InPartOf (Some (records.Attribute prefix name)) part bytes k = InAttribute prefix name part bytes k
InPartOf (Some (records.Declaration prefix uri)) part bytes k = InNamed prefix part bytes k
InPartOf _ part bytes k = ⊥

abbrev pub InParts : Part → List ℕ → ℕ → Type 0
InParts part bytes k =
    BehindMany array_turn
    (λ rest i. Now part_type part i
    ⊎ Behind (a_byte {R = RecordFault})
    (λ byte behind h. InPartOf (record_kind byte) part behind h) rest i) bytes k

abbrev pub InCellsOf : Option ArrayKind → Part → ℕ → Type 0
InCellsOf (Some kind) part k = Now count part k
InCellsOf None part k = ⊥

abbrev pub InCells : Part → List ℕ → ℕ → Type 0
InCells part bytes k =
    Now cells_type part k
    ⊎ Behind (a_byte {R = RecordFault}) (λ byte rest i. InCellsOf (array_kind byte) part i) bytes k

abbrev pub InArray : Part → List ℕ → ℕ → Type 0
InArray part bytes k =
    InElement part bytes k
    ⊎ Behind array_element
    (λ _ rest i. InParts part rest i
    ⊎ Behind array_parts (λ _ behind h. InCells part behind h) rest i) bytes k

-- in a record, behind its type byte and with it
abbrev pub InRecordOf : RecordKind → Part → List ℕ → ℕ → Type 0
InRecordOf records.EndElement part bytes k = ⊥
InRecordOf records.Comment part bytes k = Now integer part k
InRecordOf records.Array part bytes k = InArray part bytes k
InRecordOf (records.Attribute prefix name) part bytes k = InAttribute prefix name part bytes k
InRecordOf (records.Declaration prefix uri) part bytes k = InNamed prefix part bytes k
InRecordOf (records.Element prefix name) part bytes k = InNamed prefix part bytes k
InRecordOf (records.Text kind ends) part bytes k = InText true kind part bytes k

abbrev pub InPlaced : NodePlace → Option RecordKind → Part → List ℕ → ℕ → Type 0
InPlaced place (Some kind) part bytes k =
    (record_refused place (Some kind) ≡ None) × InRecordOf kind part bytes k
InPlaced place None part bytes k = ⊥

abbrev pub InRecord : NodePlace → Part → List ℕ → ℕ → Type 0
InRecord place part bytes k =
    Now (record_type place) part k
    ⊎ Behind (a_byte {R = RecordFault}) (λ byte rest i. InPlaced place (record_kind byte) part rest
    i)
    bytes k

-- some part is wrong of those that come so, as the first n bytes show
pub record Caused (comes : Part → List ℕ → ℕ → Type 0) (fault : RecordFault) (bytes : List ℕ)
    (n : ℕ) : Type 0 where
  pub part : Part
  pub at : ℕ
  pub shown : ℕ
  pub come : comes part bytes at
  pub wrong : IsWrongPart part fault (drop at bytes) shown
  pub place : n ≡ at + shown

-- The texts of a record, in their order: prefixes, names, URIs, comments, and what is to be UTF-8
-- of values.
abbrev pub texts_of_scalar : ScalarShape → List (List ℕ)
texts_of_scalar (bytes_of kind bytes) = if is_chars kind then bytes ∷ [] else []
texts_of_scalar _ = []

abbrev pub texts_of_value : ValueShape → List (List ℕ)
texts_of_value (one scalar) = texts_of_scalar scalar
texts_of_value (several scalars) = flat_map texts_of_scalar scalars

abbrev pub texts_of_name : NameRef → List (List ℕ)
texts_of_name (Inline s) = s ∷ []
texts_of_name (Id id) = []

abbrev pub texts_of_attribute : AttributeShape → List (List ℕ)
texts_of_attribute (attributes prefix name value) =
    prefix ∷ (texts_of_name name ++ texts_of_value value)
texts_of_attribute (declares prefix uri) = prefix ∷ texts_of_name uri

abbrev pub texts_in : Shape → List (List ℕ)
texts_in ends_element = []
texts_in (comments bytes) = bytes ∷ []
texts_in (begins_element prefix name) = prefix ∷ texts_of_name name
texts_in (adds attribute) = texts_of_attribute attribute
texts_in (has_text value ends) = texts_of_value value
texts_in (repeats array) =
    array.prefix ∷ (texts_of_name array.name ++ flat_map texts_of_attribute array.attributes)

-- its values
abbrev pub scalars_of_value : ValueShape → List ScalarShape
scalars_of_value (one scalar) = scalar ∷ []
scalars_of_value (several scalars) = scalars

abbrev pub scalars_of_attribute : AttributeShape → List ScalarShape
scalars_of_attribute (attributes prefix name value) = scalars_of_value value
scalars_of_attribute (declares prefix uri) = []

abbrev pub scalars_of_cells : ArrayShape → List ScalarShape
scalars_of_cells array =
    flat_map (λ cell. bytes_of (text_kind_in array.kind) cell ∷ [])
    (cells array.count (width_of array.kind) array.bytes)

abbrev pub scalars_in : Shape → List ScalarShape
scalars_in (adds attribute) = scalars_of_attribute attribute
scalars_in (has_text value ends) = scalars_of_value value
scalars_in (repeats array) =
    flat_map scalars_of_attribute array.attributes ++ scalars_of_cells array
scalars_in _ = []

-- bytes that are an odd number, or have a surrogate without its partner
abbrev pub IsNoUtf16 : List ℕ → Type 0
IsNoUtf16 bytes = (length bytes % 2 ≡ 1) ⊎ (has_unpaired_surrogate (units_of bytes) ≡ true)

-- A value whose bytes are none of its kind. Of the last six kinds no record has such: an identifier
-- has 16 bytes, and the others no bytes of their own.
abbrev pub IsNoValue : ScalarShape → Type 0
IsNoValue (bytes_of texts.Bool bytes) = 1 < slice_index bytes 0
IsNoValue (bytes_of texts.Decimal bytes) =
    (28 < slice_index bytes 2) ⊎ ((slice_index bytes 3 ≢ 0) × (slice_index bytes 3 ≢ 128))
IsNoValue (bytes_of texts.UnicodeChars8 bytes) = IsNoUtf16 bytes
IsNoValue (bytes_of texts.UnicodeChars16 bytes) = IsNoUtf16 bytes
IsNoValue (bytes_of texts.UnicodeChars32 bytes) = IsNoUtf16 bytes
IsNoValue (qualified_by letter id) = 25 < letter
IsNoValue (bytes_of texts.UniqueId bytes) = length bytes ≢ 16
IsNoValue (bytes_of texts.Uuid bytes) = length bytes ≢ 16
IsNoValue (bytes_of texts.StartList bytes) = ⊤
IsNoValue (bytes_of texts.EndList bytes) = ⊤
IsNoValue (bytes_of texts.Dictionary bytes) = ⊤
IsNoValue (bytes_of texts.QNameDictionary bytes) = ⊤
IsNoValue _ = ⊥

-- a whole record of n bytes has a text that isn't UTF-8
pub record HasBadText (place : NodePlace) (bytes : List ℕ) (n : ℕ) : Type 0 where
  pub shape : Shape
  pub stands : shape_at place bytes ≡ whole shape n
  pub text : List ℕ
  pub within : Contains (texts_in shape) text
  pub bad : ¬ (IsUtf8 text)

-- its texts are UTF-8, and a value of it is none
pub record HasBadValue (place : NodePlace) (bytes : List ℕ) (n : ℕ) : Type 0 where
  pub shape : Shape
  pub stands : shape_at place bytes ≡ whole shape n
  pub texts : (text : List ℕ) → Contains (texts_in shape) text → IsUtf8 text
  pub value : ScalarShape
  pub within : Contains (scalars_in shape) value
  pub bad : IsNoValue value
