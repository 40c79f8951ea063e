-- What holds of what is written by the definitions alone: of nodes, of records one behind the
-- other, and of the strings of a table.
use Rattle.std.specs.Prelude.{◌≡◌, ℕ, ◌^◌, ◌<◌, ◌≤◌, ◌&&◌, List, ◌++◌, IsTrue, flat_map}
use Rattle.std.specs.{List.list_all, Str.is_utf8}
use Rattle.{string_tables.specs.SessionStrings.used_cost, multibyte_ints.specs.Text.string_bytes_of}
use Rattle.string_tables.specs.StringTable.{StringTable, with_strings}
use Rattle.nbfx_values.specs.{declared.content.Item.Item, Items.is_valid_item}
use Rattle.nbfx_values.specs.{Measures.content_of, Scalars.is_unsigned}
use Rattle.nbfx_records.specs.{declared.nodes.Node.Node, Chosen.chosen_bytes, Chosen.table_bytes}
use Rattle.nbfx_records.specs.Meaning.{EachMeans, identifiers, Means}
use Rattle.nbfx_records.specs.Payloads.{AreRecords, AreStrings, IsStringTable}
use Rattle.nbfx_records.specs.Valid.{fits_node, is_short, is_valid_node, names_qnames}

-- a node says the same where strings are appended, and so do records
abbrev pub MeaningsStay : Type 0
MeaningsStay = (table : StringTable) (more : List (List ℕ)) (node : Node) (said : List Item)
    → Means table node said → Means (with_strings table more) node said

abbrev pub RecordsStay : Type 0
RecordsStay = (table : StringTable) (more : List (List ℕ)) (items : List Item) (bytes : List ℕ)
    → AreRecords table items bytes → AreRecords (with_strings table more) items bytes

-- A node may be written that says what is valid: where the content is below 2^31, and each
-- identifier, and each QName has one.
abbrev pub SaidMayBeWritten : Type 0
SaidMayBeWritten = (table : StringTable) (node : Node) (said : List Item)
    → Means table node said → IsTrue (list_all is_valid_item said) → content_of said < 2 ^ 31
    → IsTrue (names_qnames node) → IsTrue (list_all (is_unsigned 31) (identifiers node))
    → IsTrue (is_valid_node node) × IsTrue (fits_node node)

-- records behind records are records of the items of both
abbrev pub RecordsJoin : Type 0
RecordsJoin = (table : StringTable) (items more : List Item) (bytes rest : List ℕ)
    → AreRecords table items bytes → AreRecords table more rest
    → AreRecords table (items ++ more) (bytes ++ rest)

-- what is written of nodes, one behind the other, are records of what they say
abbrev pub WrittenAreRecords : Type 0
WrittenAreRecords = (table : StringTable) (nodes : List Node) (said : List (List Item))
    → EachMeans (Means table) nodes said
    → IsTrue (list_all is_valid_node nodes) → IsTrue (list_all fits_node nodes)
    → AreRecords table (flat_map (λ items. items) said) (flat_map chosen_bytes nodes)

-- what is written of texts, one behind the other, are strings of them,
abbrev pub WrittenAreStrings : Type 0
WrittenAreStrings = (texts : List (List ℕ))
    → IsTrue (list_all (λ text. is_utf8 text && is_short text) texts)
    → AreStrings texts (flat_map string_bytes_of texts)

-- and of no others
abbrev pub StringsAreOnce : Type 0
StringsAreOnce = (texts others : List (List ℕ)) (bytes : List ℕ)
    → AreStrings texts bytes → AreStrings others bytes → texts ≡ others

-- what is written of a table is one of its strings
abbrev pub WrittenIsTable : Type 0
WrittenIsTable = (texts : List (List ℕ))
    → IsTrue (list_all is_utf8 texts) → used_cost texts ≤ 2 ^ 28
    → IsStringTable texts (table_bytes texts)
