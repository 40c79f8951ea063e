-- The parts of a record as a function has them, with slices of its bytes, seen as the shapes that
-- they are.
use Rattle.std.specs.Prelude.{◌≡◌, ℕ, ◌*◌, Bool, true, false, List, [], ◌∷◌, length, ⊤}
use denote.Ref.{Bor}
use Rattle.unit_streams.specs.Front.{on_whole, whole}
use Rattle.unit_streams.specs.Parts.{Many, more, stop, Turn}
use Rattle.nbfx_records.specs.declared.arrays.{ArrayPart.ArrayPart, CellsPart.CellsPart}
use Rattle.nbfx_records.specs.declared.arrays.ArrayTurn.{ArrayTurn, TheVariants.End as EndOfParts}
use Rattle.nbfx_records.specs.declared.arrays.ArrayTurn.TheVariants.{Part as AttributePartAt}
use Rattle.nbfx_records.specs.{declared.attributes.AttributePart.AttributePart, Kinds.width_of}
use Rattle.nbfx_records.specs.declared.attributes.AttributePart.TheVariants.{Attribute as AttributeAt}
use Rattle.nbfx_records.specs.declared.attributes.AttributePart.TheVariants.{Declaration as DeclarationAt}
use Rattle.nbfx_records.specs.declared.attributes.ValuePart.{ValuePart, TheVariants.List as ListAt}
use Rattle.nbfx_records.specs.declared.attributes.ValuePart.TheVariants.{One as OneAt}
use Rattle.nbfx_records.specs.declared.lists.{ListHolder.ListHolder, ListPart.ListPart}
use Rattle.nbfx_records.specs.declared.lists.ListTurn.{ListTurn, TheVariants.End, TheVariants.Value}
use Rattle.nbfx_records.specs.declared.nodes.NameRef.{NameRef, TheVariants.Id, TheVariants.Inline}
use Rattle.nbfx_records.specs.declared.parts.{NamePart.NamePart, NamedPart.NamedPart}
use Rattle.nbfx_records.specs.declared.parts.NamePart.TheVariants.{Id as IdAt, Inline as InlineAt}
use Rattle.nbfx_records.specs.declared.parts.{PrefixPart.PrefixPart, ScalarPart.ScalarPart}
use Rattle.nbfx_records.specs.declared.parts.PrefixPart.TheVariants.{Letter, Text as TextOf}
use Rattle.nbfx_records.specs.declared.records.RecordPart.{RecordPart}
use Rattle.nbfx_records.specs.Shapes.{adds, array_parts, array_shape, ArrayShape, attributes}
use Rattle.nbfx_records.specs.Shapes.{AttributeShape, begins_element, bytes_of, cells_shape}
use Rattle.nbfx_records.specs.Shapes.{CellsShape, comments, declares, ends_element, has_text}
use Rattle.nbfx_records.specs.Shapes.{list_at, named_by, named_shape, NamedShape, one, qualified_by}
use Rattle.nbfx_records.specs.Shapes.{repeats, ScalarShape, several, Shape, ValueShape}
use Rattle.nbfx_records.specs.declared.parts.ScalarPart.TheVariants as scalars
use Rattle.nbfx_records.specs.declared.lists.ListHolder.TheVariants as holders
use Rattle.nbfx_records.specs.declared.records.RecordPart.TheVariants as records

abbrev pub prefix_seen : PrefixPart → List ℕ
prefix_seen (Letter letter) = letter ∷ []
prefix_seen (TextOf text) = text.now

abbrev pub name_seen : NamePart → NameRef
name_seen (InlineAt text) = Inline text.now
name_seen (IdAt id) = Id id

abbrev pub scalar_seen : ScalarPart → ScalarShape
scalar_seen (scalars.Bytes kind bytes) = bytes_of kind bytes.now
scalar_seen (scalars.Named id) = named_by id
scalar_seen (scalars.Qualified letter id) = qualified_by letter id

-- whether the end of a list may end the element that holds it
abbrev pub may_close : ListHolder → Bool
may_close holders.Text = true
may_close holders.Attribute = false

abbrev pub turn_seen : ListTurn → Turn ScalarShape Bool
turn_seen (Value scalar) = more (scalar_seen scalar)
turn_seen (End ends) = stop ends

-- the values of a list, by its bytes behind the type byte
abbrev pub listed : List ℕ → List ScalarShape
listed bytes = on_whole (list_at true bytes) (λ list n. list.items) []

abbrev pub list_seen : ListPart → Many ScalarShape Bool
list_seen list = record { items = listed list.bytes.now; last = list.closes }

abbrev pub value_seen : ValuePart → ValueShape
value_seen (OneAt scalar) = one (scalar_seen scalar)
value_seen (ListAt bytes) = several (listed bytes.now)

abbrev pub attribute_seen : AttributePart → AttributeShape
attribute_seen (AttributeAt prefix name value) =
    attributes (prefix_seen prefix) (name_seen name) (value_seen value)
attribute_seen (DeclarationAt prefix uri) = declares (prefix_seen prefix) (name_seen uri)

abbrev pub named_seen : NamedPart → NamedShape
named_seen named = named_shape (prefix_seen named.prefix) (name_seen named.name)

abbrev pub array_turn_seen : ArrayTurn → Turn AttributeShape (Unit {0})
array_turn_seen (AttributePartAt attribute) = more (attribute_seen attribute)
array_turn_seen EndOfParts = stop tt

-- the attributes of an array, by their bytes with those of their end
abbrev pub parts_of : List ℕ → List AttributeShape
parts_of bytes = on_whole (array_parts bytes) (λ parts n. parts.items) []

abbrev pub parts_seen : Bor (List ℕ) → Many AttributeShape (Unit {0})
parts_seen bytes = record { items = parts_of bytes.now; last = tt }

abbrev pub cells_seen : CellsPart → CellsShape
cells_seen cells = cells_shape cells.kind cells.count cells.bytes.now

abbrev pub array_seen : ArrayPart → ArrayShape
array_seen array =
    array_shape (named_seen array.element) (parts_of array.attributes.now) (cells_seen array.cells)

abbrev pub record_seen : RecordPart → Shape
record_seen records.EndElement = ends_element
record_seen (records.Comment text) = comments text.now
record_seen (records.Element element) =
    let it = named_seen element in begins_element it.prefix it.name
record_seen (records.Attribute attribute) = adds (attribute_seen attribute)
record_seen (records.Text value ends) = has_text (value_seen value) ends
record_seen (records.Array array) = repeats (array_seen array)

-- all of the bytes are a list, and the attributes of an array, each behind its type byte
pub record IsList (bytes : List ℕ) : Type 0 where
  pub list : Many ScalarShape Bool
  pub is : list_at true bytes ≡ whole list (length bytes)

pub record AreParts (bytes : List ℕ) : Type 0 where
  pub parts : Many AttributeShape (Unit {0})
  pub are : array_parts bytes ≡ whole parts (length bytes)

-- the bytes are as many as the values want
abbrev pub AreSized : CellsPart → Type 0
AreSized cells = length cells.bytes.now ≡ cells.count * width_of cells.kind

-- the slices of a part are what they stand for
abbrev pub HoldsLists : ValuePart → Type 0
HoldsLists (OneAt scalar) = ⊤
HoldsLists (ListAt bytes) = IsList bytes.now

abbrev pub IsSoundAttribute : AttributePart → Type 0
IsSoundAttribute (AttributeAt prefix name value) = HoldsLists value
IsSoundAttribute (DeclarationAt prefix uri) = ⊤

abbrev pub IsSoundTurn : ArrayTurn → Type 0
IsSoundTurn (AttributePartAt attribute) = IsSoundAttribute attribute
IsSoundTurn EndOfParts = ⊤

abbrev pub IsSoundRecord : RecordPart → Type 0
IsSoundRecord (records.Attribute attribute) = IsSoundAttribute attribute
IsSoundRecord (records.Text value ends) = HoldsLists value
IsSoundRecord (records.Array array) = AreParts array.attributes.now × AreSized array.cells
IsSoundRecord _ = ⊤
