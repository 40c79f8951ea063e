-- What an envelope's payload is read by (MC-NBFS, and MC-NBFSE where it begins with strings of its
-- own): a table's size, the table's strings, and nodes.
use Rattle.std.specs.Prelude.{ℕ, zero, suc, ◌+◌, ◌-◌, false, List, [], ◌∷◌, ◌++◌, if◌then◌else◌}
use Rattle.std.specs.Prelude.{nat_lt, Some, None, Option}
use Rattle.unit_streams.specs.{Front.begun, Front.Front, Grammar.Grammar, Parts.Reader, Parts.seen}
use Rattle.string_tables.specs.{SessionStrings.used_cost, StaticStrings.Entry}
use Rattle.string_tables.specs.StringTable.{StringTable}
use Rattle.nbfx_values.specs.declared.{content.Item.Item, position.Position.Position}
use Rattle.nbfx_values.specs.declared.{refusals.Reason.Reason, session.Kind.Kind}
use Rattle.nbfx_values.specs.{Limits.Limits, Measures.content_of, Positions.position_of}
use Rattle.nbfx_records.specs.declared.nodes.{Node.Node, NodePlace.NodePlace}
use Rattle.nbfx_records.specs.declared.nodes.NodePlace.TheVariants.{AfterRoot, BeforeRoot, Within}
use Rattle.nbfx_records.specs.{Meaning.items_of, RecordAtFront.node_at}
use Rattle.nbfx_decoder.specs.{declared.section.Section.Section, Faults.reason_of}
use Rattle.nbfx_decoder.specs.declared.section.Section.TheVariants.{Nodes, Strings, TableSize}
use Rattle.nbfx_decoder.specs.Sections.{first_section, section_of}
use Rattle.nbfx_decoder.specs.Tables.{table_integer, table_string_at, TableString}
use Rattle.nbfx_values.specs.declared.position.Position.TheVariants as positions
use Rattle.nbfx_values.specs.declared.refusals.Reason.TheVariants as reasons

-- what payloads are read by: the static strings, whether each payload begins with strings, and what
-- is admitted
pub record Settings : Type 0 where
  pub statics : List Entry
  pub kind : Kind
  pub limits : Limits

-- why a payload is refused, and the offset at which the refused unit begins
pub record Refusal : Type 0 where
  pub at : ℕ
  pub reason : Reason

-- behind whole units: what comes next, the strings of the direction so far, and the document's
-- items so far
pub record Situation : Type 0 where
  pub section : Section
  pub strings : List (List ℕ)
  pub items : List Item

pub data PayloadUnit : Type 0 where
  -- how many bytes the strings have
  table_size : ℕ → PayloadUnit
  table_string : TableString → PayloadUnit
  node : Node → PayloadUnit

-- a payload completes nothing before its end
pub data NoEvent : Type 0 where

-- how much more the strings may cost
abbrev pub room_for : ℕ → List (List ℕ) → ℕ
room_for quota strings = quota - used_cost strings

-- where the next node stands, of which so many may be open
abbrev pub place_of : ℕ → Option Position → NodePlace
place_of depth None = AfterRoot
place_of depth (Some positions.Before) = BeforeRoot
place_of depth (Some (positions.Within inner attributes)) =
    Within attributes (nat_lt (inner + 1) depth)
place_of depth (Some positions.After) = AfterRoot

-- a node, behind these items
abbrev pub node_behind : ℕ → List Item → Reader PayloadUnit Reason
node_behind depth items bytes =
    seen node reason_of (node_at (place_of depth (position_of items)) bytes)

-- the unit at the front of some bytes
abbrev pub unit_of : Settings → Situation → Section → Reader PayloadUnit Reason
unit_of x z TableSize bytes = seen table_size (λ reason. reason) (table_integer bytes)
unit_of x z (Strings zero) bytes = begun
unit_of x z (Strings (suc more)) bytes = seen table_string (λ reason. reason)
    (table_string_at (room_for x.limits.dictionary z.strings) (suc more) bytes)
unit_of x z Nodes bytes = node_behind x.limits.depth z.items bytes

abbrev pub refusal : ℕ → Reason → Refusal
refusal from reason = record { at = from; reason = reason }

unfoldable pub unit_in : Settings → Situation → ℕ → List ℕ → Front PayloadUnit Refusal
unit_in x z from bytes = seen (λ unit. unit) (refusal from) (unit_of x z z.section bytes)

-- what identifiers name
abbrev pub table_in : Settings → Situation → StringTable
table_in x z = record { statics = x.statics; strings = z.strings }

-- why a node is refused that means these items, or names what isn't there
abbrev pub reason_in : ℕ → List Item → Option (List Item) → Option Reason
reason_in content items None = Some reasons.UnknownString
reason_in content items (Some more) =
    if nat_lt content (content_of (items ++ more)) then Some reasons.TooMuchContent
    else None

-- what it adds, where it isn't refused
abbrev pub added : Option Reason → Option (List Item) → List Item
added None (Some more) = more
added _ _ = []

-- the situation behind a whole unit
unfoldable pub after : Settings → Situation → PayloadUnit → Situation
after x z (table_size n) = record z { section = section_of n }
after x z (table_string s) = record z {
  section = section_of s.left;
  strings = z.strings ++ s.text ∷ [];
}
after x z (node n) =
    let more = items_of (table_in x z) n in
    record z { items = z.items ++ added (reason_in x.limits.content z.items more) more }

-- why a whole unit is refused
unfoldable pub refused : Settings → Situation → PayloadUnit → Option Reason
refused x z (table_size n) = None
refused x z (table_string s) = None
refused x z (node n) = reason_in x.limits.content z.items (items_of (table_in x z) n)

-- the payload is whole where its root has ended
abbrev pub cut_at : Option Position → ℕ → Option Refusal
cut_at (Some positions.After) from = None
cut_at _ from = Some (refusal from reasons.DocumentCut)

abbrev pub refusal_from : ℕ → Option Reason → Option Refusal
refusal_from from None = None
refusal_from from (Some reason) = Some (refusal from reason)

-- before the first byte of a payload, behind payloads that left these strings
abbrev pub beginning : Settings → List (List ℕ) → Situation
beginning x strings = record { section = first_section x.kind; strings = strings; items = [] }

-- the payload's grammar
abbrev pub payload : Settings → List (List ℕ) → Grammar Situation PayloadUnit NoEvent Refusal
payload x strings = record {
  start = beginning x strings;
  unit_at = unit_in x;
  after = λ z from unit. after x z unit;
  refused = λ z from unit. refusal_from from (refused x z unit);
  completed = λ z from to unit. None;
  is_over = λ z. false;
  at_length = λ z from n. None;
  at_end = λ z from n. cut_at (position_of z.items) from;
}
