-- The spelling of a document that a writer chooses (MC-NBFX, MC-NBFS, and MC-NBFSE where payloads
-- bring
-- strings): one fold over its items, which carries the session's strings on.
use Rattle.std.specs.Prelude.{◌≡◌, ℕ, ◌+◌, ◌≤◌, true, false, List, [], ◌∷◌, ◌++◌, length, drop}
use Rattle.std.specs.Prelude.{if◌then◌else◌, nat_lt, Some, None, Ok, Err, Option, Result}
use Rattle.std.specs.Prelude.{option_map, flat_map}
use Rattle.string_tables.specs.StringTable.{StringTable}
use Rattle.nbfx_values.specs.declared.content.Item.{Item, TheVariants.Text, TheVariants.Xmlns}
use Rattle.nbfx_values.specs.declared.content.Item.TheVariants.{Array, Attr, Close, Comment, Start}
use Rattle.nbfx_values.specs.{declared.scalars.Value.Value, Limits.Limits}
use Rattle.nbfx_values.specs.declared.session.Kind.{Kind, TheVariants.Plain, TheVariants.Session}
use Rattle.nbfx_values.specs.Measures.{capped, content_of, depth_of}
use Rattle.nbfx_records.specs.{declared.nodes.Node.Node, Chosen.chosen_bytes, Chosen.table_bytes}
use Rattle.nbfx_encoder.specs.Placing.{place, Placed, spell_array, spell_value, Writing}
use Rattle.nbfx_records.specs.declared.nodes.Node.TheVariants as nodes

-- what one record says: an item, or a text and the end of the element that it is last in
pub data Said : Type 0 where
  an_item : Item → Said
  last_text : Value → Said

abbrev pub items_said : Said → List Item
items_said (an_item item) = item ∷ []
items_said (last_text value) = Text value ∷ Close ∷ []

-- a text right before an end shares its record
abbrev pub joined : Item → List Said → List Said
joined (Text value) (an_item Close ∷ rest) = last_text value ∷ rest
joined item rest = an_item item ∷ rest

abbrev pub in_records : List Item → List Said
in_records [] = []
in_records (item ∷ items) = joined item (in_records items)

-- a record's node
abbrev pub spell_item : Writing → StringTable → Item → Option (Placed Node)
spell_item w table (Start prefix local) =
    let name = place w table local in Some (nodes.Element prefix name.0, name.1)
spell_item w table (Xmlns prefix uri) =
    let name = place w table uri in Some (nodes.Xmlns prefix name.0, name.1)
spell_item w table (Attr prefix local value) =
    let name = place w table local in
    option_map (λ placed. (nodes.Attribute prefix name.0 placed.0, placed.1))
    (spell_value w name.1 value)
spell_item w table (Text value) =
    option_map (λ placed. (nodes.Text placed.0 false, placed.1)) (spell_value w table value)
spell_item w table (Comment text) = Some (nodes.Comment text, table)
spell_item w table (Array a) =
    option_map (λ placed. (nodes.Array placed.0, placed.1)) (spell_array w table a)
spell_item w table Close = Some (nodes.EndElement, table)

abbrev pub spell_said : Writing → StringTable → Said → Option (Placed Node)
spell_said w table (an_item item) = spell_item w table item
spell_said w table (last_text value) =
    option_map (λ placed. (nodes.Text placed.0 true, placed.1)) (spell_value w table value)

-- a node before others
abbrev pub with_first : Node → Result (Placed (List Node)) ℕ → Result (Placed (List Node)) ℕ
with_first node (Ok more) = Ok (node ∷ more.0, more.1)
with_first node (Err item) = Err item

-- a node and what is spelled behind it; or the item that can't be spelled
abbrev pub and_then : Option (Placed Node) → ℕ → (StringTable → Result (Placed (List Node)) ℕ)
    → Result (Placed (List Node)) ℕ
and_then None at next = Err at
and_then (Some placed) at next = with_first placed.0 (next placed.1)

-- the nodes of records, of which the first begins with the item of this number; or the number of
-- the
-- first item that has a QName whose name gets no identifier
abbrev pub spell_from : Writing → StringTable → ℕ → List Said → Result (Placed (List Node)) ℕ
spell_from w table at [] = Ok ([], table)
spell_from w table at (said ∷ rest) =
    and_then (spell_said w table said) at
    (λ behind. spell_from w behind (at + length (items_said said)) rest)

abbrev pub spell : Writing → StringTable → List Item → Result (Placed (List Node)) ℕ
spell w table items = spell_from w table 0 (in_records items)

-- what a payload begins with: under MC-NBFSE the strings that it brings
abbrev pub opening_bytes : Kind → List (List ℕ) → List ℕ
opening_bytes Plain own = []
opening_bytes Session own = table_bytes own

-- the strings that stand in a table behind those of another
abbrev pub strings_behind : StringTable → StringTable → List (List ℕ)
strings_behind before behind = drop (length before.strings) behind.strings

-- a payload, and the table behind it
abbrev pub payload_of : Kind → StringTable → Placed (List Node) → Placed (List ℕ)
payload_of kind table placed =
    (opening_bytes kind (strings_behind table placed.1) ++ flat_map chosen_bytes placed.0, placed.1)

-- the chosen payload of a document; or the number of the item that has none
abbrev pub chosen_of : Kind → StringTable → Result (Placed (List Node)) ℕ → Result (Placed (List ℕ))
    ℕ
chosen_of kind table (Ok placed) = Ok (payload_of kind table placed)
chosen_of kind table (Err item) = Err item

abbrev pub chosen : Writing → StringTable → List Item → Result (Placed (List ℕ)) ℕ
chosen w table items = chosen_of w.kind table (spell w table items)

-- what a writer is set to
abbrev pub writing : Limits → Kind → Writing
writing limits kind = record { kind = kind; dictionary = limits.dictionary }

-- a document fits: its nesting, its content, an identifier for each QName, and its payload
pub record Fits (limits : Limits) (kind : Kind) (table : StringTable) (items : List Item) : Type 0
  where
    pub depth : depth_of items ≤ limits.depth
    pub content : content_of items ≤ limits.content
    pub payload : Placed (List ℕ)
    pub chosen_is : chosen (writing limits kind) table items ≡ Ok payload
    pub within : length payload.0 ≤ limits.payload

-- why one doesn't: by the first of these
pub data Unfit : Type 0 where
  too_deep : ℕ → Unfit
  too_much : ℕ → Unfit
  unnamed : ℕ → Unfit
  too_large : ℕ → Unfit

abbrev pub within_payload : ℕ → Result (Placed (List ℕ)) ℕ → Result (Placed (List ℕ)) Unfit
within_payload most (Err item) = Err (unnamed item)
within_payload most (Ok payload) = if nat_lt most (length payload.0)
    then Err (too_large (length payload.0))
    else Ok payload

-- the payload that is written of a document, or why there is none
abbrev pub encoded : Limits → Kind → StringTable → List Item → Result (Placed (List ℕ)) Unfit
encoded limits kind table items =
    if nat_lt limits.depth (depth_of items) then Err (too_deep (depth_of items))
    else if nat_lt limits.content (content_of items) then Err (too_much (capped (content_of items)))
    else within_payload limits.payload (chosen (writing limits kind) table items)
