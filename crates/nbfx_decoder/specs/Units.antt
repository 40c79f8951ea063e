-- What a reader of units answers. The public contracts cite of it, through DecoderState, where a
-- unit may come, what it waits for and the strings that it has read.
use Rattle.std.specs.Prelude.{◌≡◌, ℕ, ◌+◌, ◌-◌, ◌^◌, ◌<◌, ◌≤◌, max, ◌⊎◌, List, ◌++◌, length, IfSome}
use Rattle.std.specs.Prelude.{IfNone, IfOk, IsTrue, Some, None, Ok, Err, Option, Result, ⊤}
use Rattle.unit_streams.specs.Front.{begun, Front, whole, wrong}
use Rattle.string_tables.specs.{SessionStrings.cost, StringTable.StringTable}
use Rattle.{multibyte_ints.specs.Integer.IsBytes, nbfx_decoder.specs.Faults.reason_of}
use Rattle.nbfx_values.specs.declared.{content.Item.Item, refusals.Reason.Reason}
use Rattle.nbfx_values.specs.declared.refusals.Reason.TheVariants.{TooMuchContent, UnknownString}
use Rattle.nbfx_values.specs.{Measures.content_of, Positions.position_of, QuotasOf.limits_of}
use Rattle.nbfx_records.specs.declared.nodes.{Node.Node, NodeFault.NodeFault}
use Rattle.nbfx_records.specs.declared.nodes.{NodePlace.NodePlace, RawValue.RawValue}
use Rattle.nbfx_records.specs.{declared.nodes.RecordFault.RecordFault, Judged.Makes}
use Rattle.nbfx_records.specs.{Contents.contents, Places.Stands, Valid.is_valid_node}
use Rattle.nbfx_records.specs.{Cursor.IsWhole, Meaning.items_of, Shapes.shape_at, Shapes.ValueShape}
use Rattle.nbfx_records.specs.Shapes.{adds, attributes, has_text, one, repeats, several, Shape}
use Rattle.nbfx_decoder.specs.declared.{faults.UnitFault.UnitFault, meaning.Meant.Meant}
use Rattle.nbfx_decoder.specs.declared.faults.UnitFault.TheVariants.{Memory, Refused}
use Rattle.nbfx_decoder.specs.declared.strings.{Head.Head, StringRead.StringRead}
use Rattle.nbfx_decoder.specs.declared.units.UnitRead.{UnitRead, TheVariants.Done, TheVariants.More}
use Rattle.nbfx_decoder.specs.{declared.units.UnitReader.UnitReader, Meant.items_in}
use Rattle.nbfx_decoder.specs.Payload.{after, node, PayloadUnit, place_of, refusal, refused}
use Rattle.nbfx_decoder.specs.Payload.{Settings, Situation, unit_in}
use Rattle.nbfx_decoder.specs.Tables.{head_at, StringHead, table_string_at}
use Rattle.nbfx_records.specs.declared.nodes.Node.TheVariants as nodes
use Rattle.nbfx_records.specs.declared.nodes.RawValue.TheVariants as values
use Rattle.nbfx_decoder.specs.declared.strings.StringRead.TheVariants as strings_read

-- it has begun, and fewer than so many bytes in all decide nothing, however they go on
pub record AwaitsBytes {A R : Type 0} (reader : List ℕ
    → Front A R) (bytes : List ℕ) (wants : ℕ) : Type 0 where
  pub more : length bytes < wants
  pub begins : (next : List ℕ) → length (bytes ++ next) < wants → reader (bytes ++ next) ≡ begun

-- what stands at the front, of a length
abbrev pub head_seen : ℕ → Head → StringHead
head_seen left head = record { size = head.size; left = left - head.used - head.size }

abbrev pub HeadStands : ℕ → ℕ → List ℕ → Result (Option Head) UnitFault → Type 0
HeadStands room left bytes (Ok None) = head_at room left bytes ≡ begun
HeadStands room left bytes (Ok (Some head)) =
    (head_at room left bytes ≡ whole (head_seen left head) head.used) × (max head.size 1 ≤ room)
HeadStands room left bytes (Err (Refused reason shown_by)) =
    head_at room left bytes ≡ wrong reason shown_by
HeadStands room left bytes (Err Memory) = ⊥

-- and of a string
abbrev pub StringStands : ℕ → ℕ → List ℕ → Result StringRead UnitFault → Type 0
StringStands room left bytes (Ok (strings_read.More wants)) =
    AwaitsBytes (table_string_at room left) bytes wants
StringStands room left bytes (Ok (strings_read.Done text used)) =
    (table_string_at room left bytes ≡ whole (record { text = text.now; left = left - used }) used)
    × (cost text.now ≤ room)
StringStands room left bytes (Err (Refused reason shown_by)) =
    table_string_at room left bytes ≡ wrong reason shown_by
StringStands room left bytes (Err Memory) = ⊥

-- it is set so, and has these strings, behind so many bytes of a payload
pub record HasStrings (r : UnitReader) (x : Settings) (strings : List (List ℕ)) (from : ℕ)
    : Type 0 where
  pub statics : r.statics.now ≡ x.statics
  pub kind : r.kind ≡ x.kind
  pub limits : limits_of r.quotas ≡ x.limits
  pub table : r.table ≡ record { strings = strings; limit = x.limits.dictionary }
  pub from_is : r.from ≡ from

-- what always stays of a reader
pub record KeepsSettings (old new : UnitReader) : Type 0 where
  pub statics : new.statics ≡ old.statics
  pub quotas : new.quotas ≡ old.quotas
  pub kind : new.kind ≡ old.kind

-- what stays of a reader where it goes on: all but where it stands in the payload
pub record KeepsTable (old new : UnitReader) : Type 0 where
  pub statics : new.statics ≡ old.statics
  pub quotas : new.quotas ≡ old.quotas
  pub kind : new.kind ≡ old.kind
  pub table : new.table ≡ old.table

-- what identifiers name for it
abbrev pub names_in : UnitReader → StringTable
names_in r = record { statics = r.statics.now; strings = r.table.strings }

-- where its next node stands
abbrev pub place_in : UnitReader → NodePlace
place_in r = place_of r.quotas.depth (position_of r.document)

-- it is in this situation
pub record IsAt (r : UnitReader) (x : Settings) (z : Situation) (from : ℕ) : Type 0 where
  pub set : HasStrings r x z.strings from
  pub section : r.section ≡ z.section
  pub items : r.document ≡ z.items

-- a whole unit has some of so many bytes, and one that has begun wants more
abbrev pub Counts : ℕ → UnitRead → Type 0
Counts len (More wants) = len < wants
Counts len (Done used) = (0 < used) × (used ≤ len)

-- how many bytes the reader goes on by
abbrev pub used_by : UnitRead → ℕ
used_by (More wants) = 0
used_by (Done used) = used

-- the unit at the front is refused, which so many bytes show
abbrev pub IsUnitRefused : Settings → Situation → ℕ → List ℕ → Reason → ℕ → Type 0
IsUnitRefused x z from bytes reason shown_by =
    (unit_in x z from bytes ≡ wrong (refusal from reason) shown_by)
    ⊎ ((unit : PayloadUnit) × (unit_in x z from bytes ≡ whole unit shown_by)
    × (refused x z unit ≡ Some reason))

-- What bytes are answered with at whose front a unit is read: behind a whole one, and where nothing
-- is read, the reader stands so.
abbrev pub UnitAnswers : Settings → Situation → ℕ → List ℕ → UnitReader → Result UnitRead UnitFault
    → Type 0
UnitAnswers x z from bytes new (Ok (Done used)) =
    (unit : PayloadUnit) × (unit_in x z from bytes ≡ whole unit used) × (refused x z unit ≡ None)
    × IsAt new x (after x z unit) (from + used)
UnitAnswers x z from bytes new (Ok (More wants)) = AwaitsBytes (unit_in x z from) bytes wants
    × IsAt new x z from
UnitAnswers x z from bytes new (Err (Refused reason shown_by)) =
    IsUnitRefused x z from bytes reason shown_by × HasStrings new x z.strings from
UnitAnswers x z from bytes new (Err Memory) = HasStrings new x z.strings from

-- what is left of the reading of a unit at the front of some bytes
pub record Reads (old new : UnitReader) (bytes : List ℕ) (result : Result UnitRead UnitFault) : Type
    0 where
  pub answers : (x : Settings) (z : Situation) (from : ℕ) → IsAt old x z from
      → UnitAnswers x z from bytes new result
  pub counts : IfOk result (Counts (length bytes))
  pub goes_on : IfOk result (λ read. new.from ≡ old.from + used_by read)
  pub kept : KeepsSettings old new

-- it stands where it stood
pub record Stays (old new : UnitReader) : Type 0 where
  pub kept : KeepsTable old new
  pub from_is : new.from ≡ old.from
  pub section : new.section ≡ old.section
  pub items : new.document ≡ old.document

-- a record at the front of some bytes was read, of so many, or nothing was
pub record ReadsQuickly (old new : UnitReader) (bytes : List ℕ) (result : Option ℕ) : Type 0 where
  pub read : IfSome result (λ used. Reads old new bytes (Ok (Done used)))
  pub unread : IfNone result (Stays old new)

-- what a node means is known, and no more content than may come behind the items
abbrev pub MayAdd : UnitReader → Node → Type 0
MayAdd r n = (more : List Item) × (items_of (names_in r) n ≡ Some more)
    × (content_of (r.document ++ more) ≤ r.quotas.content)

-- the same of a whole record of this shape
abbrev pub MayMake : UnitReader → Shape → Type 0
MayMake r shape = (n : Node) × (contents shape ≡ Ok n) × MayAdd r n

-- what a whole record of this shape says, where it may be made
pub record IsSaid (r : UnitReader) (shape : Shape) (meant : Meant) : Type 0 where
  pub made : Node
  pub is : contents shape ≡ Ok made
  pub means : items_of (names_in r) made ≡ Some (items_in meant)

-- what a node says that may come next, and no more content than may come behind the items
pub record MayFollow (r : UnitReader) (meant : Meant) : Type 0 where
  pub made : Node
  pub stands : Stands (place_in r) made
  pub means : items_of (names_in r) made ≡ Some (items_in meant)
  pub fits : MayAdd r made

-- each node that is made of such a record is one whose values records can hold
abbrev pub MakesValid : Shape → Type 0
MakesValid shape = (n : Node) → contents shape ≡ Ok n → IsTrue (is_valid_node n)

-- what it means stands behind the items
pub record IsAdded (x : Settings) (z : Situation) (from : ℕ) (n : Node) (new : UnitReader)
    : Type 0 where
  pub unrefused : refused x z (node n) ≡ None
  pub at : IsAt new x (after x z (node n)) from

-- a whole record of this shape stands at the front, of so many bytes
pub record HasShape (place : NodePlace) (shape : Shape) (used : ℕ) (bytes : List ℕ) : Type 0 where
  pub whole : IsWhole (shape_at place) bytes 0 shape used

-- a whole record of this shape, of so many bytes, stands at the front of some at whose front it is
pub record StandsAt (r : UnitReader) (shape : Shape) (used : ℕ) : Type 0 where
  pub bytes : List ℕ
  pub are : IsBytes bytes
  pub few : r.from + length bytes < 2 ^ 32
  pub has : HasShape (place_in r) shape used bytes

-- a node that names two texts at most: it is no array, and holds no list
abbrev pub HoldsOne : RawValue → Type 0
HoldsOne (values.One raw) = ⊤
HoldsOne (values.List raws) = ⊥

abbrev pub IsSingle : Node → Type 0
IsSingle (nodes.Array array) = ⊥
IsSingle (nodes.Attribute prefix name value) = HoldsOne value
IsSingle (nodes.Text value ends) = HoldsOne value
IsSingle _ = ⊤

-- a record of such a node
abbrev pub HasOne : ValueShape → Type 0
HasOne (one scalar) = ⊤
HasOne (several scalars) = ⊥

abbrev pub IsSingleShape : Shape → Type 0
IsSingleShape (repeats array) = ⊥
IsSingleShape (adds (attributes prefix name value)) = HasOne value
IsSingleShape (has_text value ends) = HasOne value
IsSingleShape _ = ⊤

-- this is made of a whole record that stands so, and names two texts at most
pub record MakesOfRecord (r : UnitReader) (made : Result Node NodeFault) (used : ℕ) : Type 0 where
  pub shape : Shape
  pub single : IsSingleShape shape
  pub stands : StandsAt r shape used
  pub makes : Makes made (contents shape)

-- what bytes are answered with, at whose front a whole record of so many bytes stands, where what
-- it
-- means is put behind the items
abbrev pub SayAnswers : Settings → Situation → ℕ → List ℕ → ℕ → UnitReader → Type 0
SayAnswers x z from bytes used new = (n : Node) × (unit_in x z from bytes ≡ whole (node n) used)
    × (refused x z (node n) ≡ None) × IsAt new x (after x z (node n)) from

-- why a whole record is refused by what it says: a text or a value, an identifier, or its content
pub data RefusedAs (r : UnitReader) (shape : Shape) (reason : Reason) : Type 0 where
  unfit : (fault : RecordFault) → contents shape ≡ Err fault → reason ≡ reason_of fault
      → RefusedAs r shape reason
  unnamed_in : (n : Node) → contents shape ≡ Ok n → items_of (names_in r) n ≡ None
      → reason ≡ UnknownString → RefusedAs r shape reason
  too_much_in : (n : Node) (more : List Item) → contents shape ≡ Ok n
      → items_of (names_in r) n ≡ Some more
      → r.quotas.content < content_of (r.document ++ more) → reason ≡ TooMuchContent
      → RefusedAs r shape reason

-- what a whole record of so many bytes is judged to be
abbrev pub Judged : UnitReader → Shape → ℕ → Result (Unit {0}) UnitFault → Type 0
Judged r shape used (Ok done) = MayMake r shape
Judged r shape used (Err (Refused reason shown_by)) = (shown_by ≡ used) × RefusedAs r shape reason
Judged r shape used (Err Memory) = ⊤

pub record Judges (r : UnitReader) (shape : Shape) (used : ℕ)
    (result : Result (Unit {0}) UnitFault) : Type 0 where
  pub judged : Judged r shape used result
