-- Which bytes are a payload of a document (MC-NBFS, and MC-NBFSE where it begins with strings of
-- its own), by the tables of the standards alone.
use Rattle.std.specs.Prelude.{◌≡◌, ℕ, ◌≤◌, List, [], ◌∷◌, ◌++◌, length}
use Rattle.string_tables.specs.SessionStrings.{used_cost}
use Rattle.string_tables.specs.StringTable.{StringTable, with_strings}
use Rattle.multibyte_ints.specs.{Integer.Spells, Text.IsString}
use Rattle.nbfx_values.specs.{declared.content.Item.Item, Documents.IsDocument, Limits.Limits}
use Rattle.nbfx_values.specs.declared.session.Kind.{Kind, TheVariants.Plain, TheVariants.Session}
use Rattle.nbfx_values.specs.Measures.{content_of, depth_of}
use Rattle.nbfx_records.specs.{declared.nodes.Node.Node, Meaning.Means, Records.IsNode}

-- one record, and the items that it means
pub record IsRecordMeaning (table : StringTable) (items : List Item) (bytes : List ℕ) : Type 0 where
  pub node : Node
  pub is_node : IsNode node bytes
  pub means : Means table node items

-- records, one behind the other, whose items joined are these
pub data AreRecords (table : StringTable) : List Item → List ℕ → Type 0 where
  no_record : AreRecords table [] []
  record_then : (items more : List Item) (bytes rest : List ℕ) → IsRecordMeaning table items bytes
      → AreRecords table more rest
      → AreRecords table (items ++ more) (bytes ++ rest)

-- strings, one behind the other
abbrev pub AreStrings : List (List ℕ) → List ℕ → Type 0
AreStrings [] bytes = bytes ≡ []
AreStrings (string ∷ strings) bytes = (front : List ℕ) × (rest : List ℕ) × (bytes ≡ front ++ rest)
    × IsString string front × AreStrings strings rest

-- a table of these strings: how many bytes they have, and then they
pub record IsStringTable (strings : List (List ℕ)) (bytes : List ℕ) : Type 0 where
  pub size : List ℕ
  pub content : List ℕ
  pub joined : bytes ≡ size ++ content
  pub is_size : Spells (length content) size
  pub are_strings : AreStrings strings content

-- strings of its own, where a payload of this kind begins with such
abbrev pub IsOpening : Kind → List (List ℕ) → List ℕ → Type 0
IsOpening Plain strings bytes = (strings ≡ []) × (bytes ≡ [])
IsOpening Session strings bytes = IsStringTable strings bytes

-- under this table the bytes are a payload of a document, with these strings of its own
pub record IsPayload (kind : Kind) (table : StringTable) (own : List (List ℕ)) (items : List Item)
    (bytes : List ℕ) : Type 0 where
  pub opening : List ℕ
  pub nodes : List ℕ
  pub joined : bytes ≡ opening ++ nodes
  pub is_opening : IsOpening kind own opening
  pub document : IsDocument items
  pub are_nodes : AreRecords (with_strings table own) items nodes

-- within what is admitted: its nesting, its content, and the strings of the direction behind it
pub record IsAdmitted (limits : Limits) (items : List Item) (strings : List (List ℕ)) : Type 0 where
  pub depth : depth_of items ≤ limits.depth
  pub content : content_of items ≤ limits.content
  pub dictionary : used_cost strings ≤ limits.dictionary

-- the same, and its bytes
pub record IsWithin (limits : Limits) (items : List Item) (bytes : List ℕ)
    (strings : List (List ℕ)) : Type 0 where
  pub payload : length bytes ≤ limits.payload
  pub admitted : IsAdmitted limits items strings
