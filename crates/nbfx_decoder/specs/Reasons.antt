-- Which bytes of a payload give each reason for refusing it.
use Rattle.std.specs.Prelude.{◌≡◌, ℕ, zero, suc, ◌+◌, ◌<◌, ◌≤◌, max, ◌⊎◌, List, ◌++◌, length, take}
use Rattle.std.specs.Prelude.{Some, None, IsUtf8, Contains}
use Rattle.{unit_streams.specs.Refusals.AreUnits, nbfx_values.specs.Positions.position_of}
use Rattle.string_tables.specs.StringTable.{named_text, StringTable}
use Rattle.multibyte_ints.specs.{Integer.Spells, Laws.FifthIsAbove}
use Rattle.nbfx_values.specs.declared.{content.Item.Item, position.Position.TheVariants.After}
use Rattle.nbfx_values.specs.{declared.refusals.Reason.Reason, Measures.content_of}
use Rattle.nbfx_records.specs.declared.nodes.{Node.Node, NodePlace.NodePlace}
use Rattle.nbfx_records.specs.{declared.nodes.RecordFault.RecordFault, Places.Stands}
use Rattle.nbfx_records.specs.Causes.{Caused, HasBadText, HasBadValue, InRecord}
use Rattle.nbfx_records.specs.{Meaning.identifiers, Meaning.Means, Records.IsNode}
use Rattle.nbfx_decoder.specs.declared.section.Section.{Section}
use Rattle.nbfx_decoder.specs.declared.section.Section.TheVariants.{Nodes, Strings, TableSize}
use Rattle.nbfx_decoder.specs.DecoderState.{from_of, situation_of}
use Rattle.nbfx_decoder.specs.Payload.{payload, place_of, room_for, Settings, Situation, table_in}
use Rattle.nbfx_values.specs.declared.refusals.Reason.TheVariants as reasons
use Rattle.nbfx_records.specs.declared.nodes.RecordFault.TheVariants as faults

-- a length at the front of the bytes, within so many bytes of a table that are left
pub record HasLength (left n : ℕ) (bytes : List ℕ) : Type 0 where
  pub spelling : List ℕ
  pub rest : List ℕ
  pub joined : bytes ≡ spelling ++ rest
  pub spelled : Spells n spelling
  pub within : length spelling ≤ left

-- the text that it tells of passes the table's end
pub record TextPasses (left : ℕ) (bytes : List ℕ) : Type 0 where
  pub n : ℕ
  pub has : HasLength left n bytes
  pub passes : left < length has.spelling + n

-- the length isn't whole at the table's end
pub record LengthIsCut (left : ℕ) (bytes : List ℕ) : Type 0 where
  pub all : left ≤ length bytes
  pub n : ℕ
  pub more : List ℕ
  pub some : 0 < length more
  pub goes_on : Spells n (take left bytes ++ more)

-- a string of that length costs more than there is room for
pub record CostsMore (room left : ℕ) (bytes : List ℕ) : Type 0 where
  pub n : ℕ
  pub has : HasLength left n bytes
  pub fits : length has.spelling + n ≤ left
  pub costs : room < max n 1

-- its text isn't UTF-8
pub record IsBadString (room left : ℕ) (bytes : List ℕ) : Type 0 where
  pub spelling : List ℕ
  pub text : List ℕ
  pub rest : List ℕ
  pub joined : bytes ≡ spelling ++ (text ++ rest)
  pub spelled : Spells (length text) spelling
  pub fits : length spelling + length text ≤ left
  pub pays : max (length text) 1 ≤ room
  pub bad : IsUtf8 text → ⊥

-- where the size of a table comes
abbrev pub ShowsAtSize : List ℕ → Reason → Type 0
ShowsAtSize bytes reasons.BadInt = FifthIsAbove bytes
ShowsAtSize bytes _ = ⊥

-- where a string of a table comes, of which so many bytes are left, and whose strings may cost so
-- much more
abbrev pub ShowsAtString : ℕ → ℕ → List ℕ → Reason → Type 0
ShowsAtString room left bytes reasons.BadInt = FifthIsAbove (take left bytes)
ShowsAtString room left bytes reasons.TableCut = TextPasses left bytes ⊎ LengthIsCut left bytes
ShowsAtString room left bytes reasons.DictionaryFull = CostsMore room left bytes
ShowsAtString room left bytes reasons.BadUtf8 = IsBadString room left bytes
ShowsAtString room left bytes _ = ⊥

-- the bytes are no record that may stand there: by a type byte, a number or a length
abbrev pub IsCaused : NodePlace → List ℕ → RecordFault → Type 0
IsCaused place bytes fault = (n : ℕ) × Caused (InRecord place) fault bytes n

-- the bytes are a record that may stand there, and one of its identifiers names no string
abbrev pub NamesNothing : StringTable → NodePlace → List ℕ → Type 0
NamesNothing table place bytes = (node : Node) × IsNode node bytes × Stands place node
    × ((id : ℕ) × Contains (identifiers node) id × (named_text table id ≡ None))

-- or its items are more content than may be, with those before them
abbrev pub IsTooMuch : StringTable → NodePlace → ℕ → List Item → List ℕ → Type 0
IsTooMuch table place content items bytes = (node : Node) × (more : List Item) × IsNode node bytes
    × Stands place node × Means table node more × (content < content_of (items ++ more))

-- where a node comes
abbrev pub node_place : Settings → Situation → NodePlace
node_place x z = place_of x.limits.depth (position_of z.items)

abbrev pub ShowsAtNode : Settings → Situation → List ℕ → Reason → Type 0
ShowsAtNode x z bytes reasons.TrailingBytes = IsCaused (node_place x z) bytes faults.TrailingBytes
ShowsAtNode x z bytes reasons.UnknownNode = IsCaused (node_place x z) bytes faults.UnknownNode
ShowsAtNode x z bytes reasons.NodeOutOfPlace = IsCaused (node_place x z) bytes faults.OutOfPlace
ShowsAtNode x z bytes reasons.BadArray = IsCaused (node_place x z) bytes faults.BadArray
ShowsAtNode x z bytes reasons.TooDeep = IsCaused (node_place x z) bytes faults.TooDeep
ShowsAtNode x z bytes reasons.BadInt = IsCaused (node_place x z) bytes faults.BadInt
ShowsAtNode x z bytes reasons.BadUtf8 = (n : ℕ) × HasBadText (node_place x z) bytes n
ShowsAtNode x z bytes reasons.BadValue = (n : ℕ) × HasBadValue (node_place x z) bytes n
ShowsAtNode x z bytes reasons.UnknownString = NamesNothing (table_in x z) (node_place x z) bytes
ShowsAtNode x z bytes reasons.TooMuchContent =
    IsTooMuch (table_in x z) (node_place x z) x.limits.content z.items bytes
ShowsAtNode x z bytes _ = ⊥

-- where this section comes
abbrev pub Shows : Settings → Situation → Section → List ℕ → Reason → Type 0
Shows x z TableSize bytes reason = ShowsAtSize bytes reason
Shows x z (Strings zero) bytes reason = ⊥
Shows x z (Strings (suc more)) bytes reason =
    ShowsAtString (room_for x.limits.dictionary z.strings) (suc more) bytes reason
Shows x z Nodes bytes reason = ShowsAtNode x z bytes reason

-- where a payload stands behind these bytes
abbrev pub ShowsBehind : Settings → List (List ℕ) → List ℕ → List ℕ → Reason → Type 0
ShowsBehind x strings before bytes reason =
    let z = situation_of x strings before in Shows x z z.section bytes reason

-- the payload bytes p are whole units, and then bytes from this offset on that show the reason
pub record ShowsFrom (x : Settings) (strings : List (List ℕ)) (p : List ℕ) (from : ℕ)
    (reason : Reason) : Type 0 where
  pub before : List ℕ
  pub bytes : List ℕ
  pub joined : p ≡ before ++ bytes
  pub place : from ≡ length before
  pub units : AreUnits (payload x strings) before
  pub shows : ShowsBehind x strings before bytes reason

-- the root hasn't ended, behind whole units up to this offset
pub record IsCutAt (x : Settings) (strings : List (List ℕ)) (p : List ℕ) (from : ℕ) : Type 0 where
  pub place : from ≡ from_of x strings p
  pub unended : position_of (situation_of x strings p).items ≡ Some After → ⊥
