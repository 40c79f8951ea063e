-- What holds of records by their definitions alone, whatever bytes they are read from.
use Rattle.std.specs.Prelude.{◌≡◌, ℕ, ◌≤◌, not, ◌≢◌, ◌↔◌, List, [], ◌++◌, length, take, IsTrue}
use Rattle.std.specs.Prelude.{Some, None, Ok, IsUtf8, Contains}
use Rattle.{std.specs.List.list_all, multibyte_ints.specs.Integer.IsBytes}
use Rattle.unit_streams.specs.Front.{begun, whole, wrong}
use Rattle.string_tables.specs.StringTable.{named_text, Names, StringTable}
use Rattle.nbfx_values.specs.{declared.content.Item.Item, Items.is_valid_item}
use Rattle.nbfx_records.specs.declared.nodes.{Node.Node, NodePlace.NodePlace}
use Rattle.nbfx_records.specs.{declared.nodes.RecordFault.RecordFault, Places.Stands}
use Rattle.nbfx_records.specs.Causes.{Caused, HasBadText, HasBadValue, InRecord, scalars_in}
use Rattle.nbfx_records.specs.Chosen.{chosen_bytes, is_utf16}
use Rattle.nbfx_records.specs.{Contents.contents, RecordAtFront.node_at, Records.IsNode}
use Rattle.nbfx_records.specs.Meaning.{identifiers, items_of, Means}
use Rattle.nbfx_records.specs.{Shapes.Shape, Shapes.shape_at, Valid.fits_node, Valid.is_valid_node}
use Rattle.nbfx_records.specs.declared.nodes.RecordFault.TheVariants as faults

-- no byte is judged where there is none
abbrev pub NothingIsBegun : Type 0
NothingIsBegun = (place : NodePlace) → node_at place [] ≡ begun

-- the record at the front is the one that bytes there are, where it may stand
abbrev pub RecordsAreRead : Type 0
RecordsAreRead = (place : NodePlace) (bytes : List ℕ) (node : Node) (n : ℕ)
    → (node_at place bytes ≡ whole node n)
    ↔ ((n ≤ length bytes) × IsNode node (take n bytes) × Stands place node)

-- no record goes on to a longer one, wherever they stand, and none is two
abbrev pub NoRecordGoesOn : Type 0
NoRecordGoesOn = (one other : Node) (bytes more : List ℕ)
    → IsNode one bytes → IsNode other (bytes ++ more) → (more ≡ []) × (one ≡ other)

-- A fault of the structure comes by the first part that is wrong,
abbrev pub WrongByPart : Type 0
WrongByPart = (place : NodePlace) (bytes : List ℕ) (fault : RecordFault) (n : ℕ)
    → fault ≢ faults.BadUtf8 → fault ≢ faults.BadValue
    → (node_at place bytes ≡ wrong fault n) ↔ Caused (InRecord place) fault bytes n

-- and one of the contents by a text or a value of a whole record
abbrev pub WrongByText : Type 0
WrongByText = (place : NodePlace) (bytes : List ℕ) (n : ℕ)
    → (node_at place bytes ≡ wrong faults.BadUtf8 n) ↔ HasBadText place bytes n

abbrev pub WrongByValue : Type 0
WrongByValue = (place : NodePlace) (bytes : List ℕ) (n : ℕ)
    → (node_at place bytes ≡ wrong faults.BadValue n) ↔ HasBadValue place bytes n

-- a record of bytes is one of a node whose values records can hold
abbrev pub RecordsAreValid : Type 0
RecordsAreValid = (node : Node) (bytes : List ℕ)
    → IsBytes bytes → IsNode node bytes → IsTrue (is_valid_node node)

-- what is written of a node is a record of it
abbrev pub ChosenIsRecord : Type 0
ChosenIsRecord = (node : Node)
    → IsTrue (is_valid_node node) → IsTrue (fits_node node) → IsNode node (chosen_bytes node)

-- and where it may stand it is read there, whatever follows
abbrev pub ChosenIsRead : Type 0
ChosenIsRead = (place : NodePlace) (node : Node) (next : List ℕ)
    → IsTrue (is_valid_node node) → IsTrue (fits_node node) → Stands place node
    → node_at place (chosen_bytes node ++ next) ≡ whole node (length (chosen_bytes node))

-- no record of it is shorter whose texts are in UTF-8
abbrev pub ChosenIsShortest : Type 0
ChosenIsShortest = (place : NodePlace) (bytes : List ℕ) (shape : Shape) (node : Node) (n : ℕ)
    → IsBytes bytes → shape_at place bytes ≡ whole shape n → contents shape ≡ Ok node
    → IsTrue (list_all (λ scalar. not (is_utf16 scalar)) (scalars_in shape))
    → length (chosen_bytes node) ≤ n

-- the items that are found for a node are those that it says
abbrev pub MeaningsAreFound : Type 0
MeaningsAreFound = (table : StringTable) (node : Node) (said : List Item)
    → (items_of table node ≡ Some said) ↔ Means table node said

-- it says nothing where one of its identifiers names no string, and only there
abbrev pub NothingWithoutNames : Type 0
NothingWithoutNames = (table : StringTable) (node : Node)
    → (items_of table node ≡ None)
    ↔ ((id : ℕ) × Contains (identifiers node) id × (named_text table id ≡ None))

abbrev pub MeansOnce : Type 0
MeansOnce = (table : StringTable) (node : Node) (said others : List Item)
    → Means table node said → Means table node others → said ≡ others

-- where the table's strings are text, the items of a valid node are valid
abbrev pub MeaningsAreValid : Type 0
MeaningsAreValid = (table : StringTable) (node : Node) (said : List Item)
    → ((id : ℕ) (text : List ℕ) → Names table id text → IsUtf8 text)
    → IsTrue (is_valid_node node) → Means table node said → IsTrue (list_all is_valid_item said)
