-- The chosen spelling has at least the bytes that are counted before it is chosen.
use Rattle.std.proofs.Common.{◌≡◌, ℕ, ◌+◌, ◌/◌, ◌≤◌, Bool, true, false, List, [], ◌∷◌, ◌++◌, length}
use Rattle.std.proofs.Common.{IfSome, IfOk, nat_lt, nat_le, Some, None, Ok, Err, sum_by, Option}
use Rattle.std.proofs.Common.{Result, option_map, flat_map, option_and_then, sym, refl, ap, ◌∙◌}
use Rattle.std.proofs.Common.{inl, inr, zero-add, arith, length-append, ne_eqb, le-leb}
use Rattle.std.proofs.lemmas.{Bool.cases_Bool, List.Sums.sum_by-append, List.Sums.sum_by-cons}
use Rattle.string_tables.specs.StringTable.{StringTable}
use Rattle.multibyte_ints.specs.{Integer.shortest, Integer.shortest_within, Text.string_bytes_of}
use Rattle.nbfx_values.specs.declared.content.{ArrayItem.ArrayItem, AttrItem.AttrItem}
use Rattle.nbfx_values.specs.declared.content.Item.{Item, TheVariants.Text, TheVariants.Xmlns}
use Rattle.nbfx_values.specs.declared.content.Item.TheVariants.{Array, Attr, Close, Comment, Start}
use Rattle.nbfx_values.specs.declared.{scalars.Value.Value, session.Kind.Kind}
use Rattle.nbfx_values.specs.{Limits.Limits, Measures.content_of}
use Rattle.least_payloads.specs.Least.{least_of_array, least_of_attribute, least_of_declaration}
use Rattle.least_payloads.specs.Least.{least_of_item, least_payload, may_fit}
use Rattle.nbfx_records.specs.declared.kinds.PrefixForm.TheVariants.{Unprefixed}
use Rattle.nbfx_records.specs.declared.nodes.{ArrayNode.ArrayNode, Node.Node}
use Rattle.nbfx_records.specs.declared.nodes.{AttrNode.AttrNode, RawValue.RawValue}
use Rattle.nbfx_records.specs.declared.nodes.NameRef.{NameRef, TheVariants.Id, TheVariants.Inline}
use Rattle.nbfx_records.specs.declared.nodes.RawValue.TheVariants.{List as ListOf, One}
use Rattle.nbfx_records.specs.Chosen.{array_bytes, array_values_bytes, attribute_bytes}
use Rattle.nbfx_records.specs.Chosen.{attribute_start, cell_bytes, chosen_bytes, comment_bytes}
use Rattle.nbfx_records.specs.Chosen.{declaration_bytes, element_bytes, name_bytes, part_bytes}
use Rattle.nbfx_records.specs.Chosen.{prefix_bytes, prefix_form, value_bytes}
use Rattle.nbfx_encoder.specs.{Laws.LargeIsUnwritten, Placing.spell_value, Placing.Writing}
use Rattle.nbfx_encoder.specs.Placing.{place, Placed, spell_array, spell_each, spell_part}
use Rattle.nbfx_encoder.specs.Spelling.{an_item, and_then, chosen, chosen_of, encoded, Fits}
use Rattle.nbfx_encoder.specs.Spelling.{in_records, items_said, joined, last_text, opening_bytes}
use Rattle.nbfx_encoder.specs.Spelling.{Said, spell_from, spell_said, strings_behind, Unfit}
use Rattle.nbfx_encoder.specs.Spelling.{with_first, writing}
use Rattle.nbfx_encoder.proofs.{LawFacts.fits_so, Payloads.in_records_said}
use Rattle.nbfx_values.specs.declared.content.AttrItem.TheVariants as attributes
use Rattle.nbfx_records.specs.declared.nodes.Node.TheVariants as nodes

-- an integer has a byte, and so has a name
shortest_some : (n : ℕ) → 1 ≤ length (shortest n)
unfolding shortest shortest_within
shortest_some n = elim (cases_Bool (nat_lt n 128)) [
  | inl is ↦ rw is (omega arith)
  | inr other ↦ rw other (omega arith)
]

name_some : (name : NameRef) → 1 ≤ length (name_bytes name)
unfolding string_bytes_of
name_some (Inline s) =
    omega (arith, shortest_some (length s), length-append (shortest (length s)) s)
name_some (Id id) = shortest_some id

-- records of names
element_least : (prefix : List ℕ) (name : NameRef) → 2 ≤ length (element_bytes prefix name)
element_least prefix name =
    omega (
      arith,
      name_some name,
      length-append (prefix_bytes (prefix_form prefix) prefix) (name_bytes name),
    )

string_two : (c : ℕ) (more : List ℕ) → 2 ≤ length (string_bytes_of (c ∷ more))
unfolding string_bytes_of
string_two c more =
    omega (
      arith,
      shortest_some (length (c ∷ more)),
      length-append (shortest (length (c ∷ more))) (c ∷ more),
    )

declaration_four : (c : ℕ) (more : List ℕ) (uri : NameRef)
    → 4 ≤ length (declaration_bytes (c ∷ more) uri)
declaration_four c more uri =
    omega (
      arith,
      name_some uri,
      string_two c more,
      length-append (string_bytes_of (c ∷ more)) (name_bytes uri),
    )

declaration_least : (prefix : List ℕ) (uri : NameRef)
    → least_of_declaration prefix ≤ length (declaration_bytes prefix uri)
declaration_least [] uri =
    omega (arith, name_some uri, length-append (prefix_bytes Unprefixed []) (name_bytes uri))
declaration_least (c ∷ more) uri =
    rw (ne_eqb (length (c ∷ more)) 0 (λ e. cc e)) (declaration_four c more uri)

comment_least : (text : List ℕ) → 2 ≤ length (comment_bytes text)
unfolding string_bytes_of
comment_least text =
    omega (
      arith,
      shortest_some (length text),
      length-append (shortest (length text)) text,
    )

value_some : (ends : Bool) (value : RawValue) → 1 ≤ length (value_bytes ends value)
value_some ends (One value) = omega arith
value_some ends (ListOf values) = omega arith

attribute_least : (prefix : List ℕ) (name : NameRef) (value : RawValue)
    → 3 ≤ length (attribute_bytes prefix name value)
attribute_least prefix name value =
    omega (
      arith,
      name_some name,
      value_some false value,
      length-append (attribute_start prefix name) (value_bytes false value),
      length-append (prefix_bytes (prefix_form prefix) prefix) (name_bytes name),
    )

-- what holds of each way to spell something
mapped : {A B : Type 0} (P : B → Type 0) (f : A → B) (found : Option A) → ((a : A) → P (f a))
    → IfSome (option_map f found) P
mapped P f None h = tt
mapped P f (Some a) h = h a

part_least : (w : Writing) (table : StringTable) (part : AttrItem)
    → IfSome (spell_part w table part) (λ p. least_of_attribute part ≤ length (part_bytes p.0))
part_least w table (attributes.Attr prefix local value) =
    let name = place w table local in
    mapped (λ (p : Placed AttrNode). 3 ≤ length (part_bytes p.0)) _
    (spell_value w name.1 value) (λ placed. attribute_least prefix name.0 placed.0)
part_least w table (attributes.Xmlns prefix uri) =
    declaration_least prefix (place w table uri).0

-- the attributes of an array's element
abbrev AreParts : List AttrItem → Placed (List AttrNode) → Type 0
AreParts parts p = sum_by least_of_attribute parts ≤ length (flat_map part_bytes p.0)

parts_least : (w : Writing) (table : StringTable) (parts : List AttrItem)
    → IfSome (spell_each (spell_part w) table parts) (AreParts parts)
parts_least w table [] = omega arith
parts_least w table (part ∷ parts) =
    by (spell_part w table part) (part_least w table part) (λ t. parts_least w t parts)
  where
    both : (first : Placed AttrNode) (rest : Option (Placed (List AttrNode)))
        → least_of_attribute part ≤ length (part_bytes first.0)
        → IfSome rest (AreParts parts)
        → IfSome (option_map (λ (rest : Placed (List AttrNode)). (first.0 ∷ rest.0, rest.1)) rest)
        (AreParts (part ∷ parts))
    both first None one more = tt
    both first (Some rest) one more =
        omega (
          arith,
          one,
          more,
          sum_by-cons least_of_attribute part parts,
          length-append (part_bytes first.0) (flat_map part_bytes rest.0),
        )

    by : (found : Option (Placed AttrNode))
        → IfSome found (λ p. least_of_attribute part ≤ length (part_bytes p.0))
        → ((t : StringTable) → IfSome (spell_each (spell_part w) t parts) (AreParts parts))
        → IfSome (option_and_then (λ first. option_map (λ rest. (first.0 ∷ rest.0, rest.1))
        (spell_each (spell_part w) first.1 parts)) found) (AreParts (part ∷ parts))
    by None one others = tt
    by (Some first) one others =
        both first (spell_each (spell_part w) first.1 parts) one (others first.1)

abbrev array_node : ArrayItem → NameRef → List AttrNode → ArrayNode
array_node a name attrs = record {
  prefix = a.prefix;
  name = name;
  attrs = attrs;
  kind = a.kind;
  values = a.values;
}

abbrev as_array : ArrayItem → NameRef → Placed (List AttrNode) → Placed ArrayNode
as_array a name placed = (array_node a name placed.0, placed.1)

abbrev as_node : Placed ArrayNode → Placed Node
as_node placed = (nodes.Array placed.0, placed.1)

-- an array, whose element has this name
array_by : (a : ArrayItem) (name : NameRef) (found : Option (Placed (List AttrNode)))
    → IfSome found (AreParts a.attrs)
    → IfSome (option_map (as_array a name) found)
    (λ p. least_of_array a ≤ length (array_bytes p.0))
array_by a name None h = tt
array_by a name (Some placed) h =
    let values = array_values_bytes a.kind a.values in
    omega (
      arith,
      h,
      element_least a.prefix name,
      shortest_some (length a.values),
      length-append (element_bytes a.prefix name) (flat_map part_bytes placed.0 ++ values),
      length-append (flat_map part_bytes placed.0) values,
      length-append (shortest (length a.values)) (flat_map (cell_bytes a.kind) a.values),
    )

array_least : (w : Writing) (table : StringTable) (a : ArrayItem)
    → IfSome (spell_array w table a) (λ p. least_of_array a ≤ length (array_bytes p.0))
array_least w table a =
    let name = place w table a.local in
    array_by a name.0 (spell_each (spell_part w) name.1 a.attrs) (parts_least w name.1 a.attrs)

-- a record
said_least : (w : Writing) (table : StringTable) (said : Said)
    → IfSome (spell_said w table said)
    (λ p. least_payload (items_said said) ≤ length (chosen_bytes p.0))
said_least w table (an_item (Start prefix local)) =
    element_least prefix (place w table local).0
said_least w table (an_item (Xmlns prefix uri)) =
    rw (zero-add (least_of_declaration prefix)) (declaration_least prefix (place w table uri).0)
said_least w table (an_item (Attr prefix local value)) =
    let name = place w table local in
    mapped (λ (p : Placed Node). 3 ≤ length (chosen_bytes p.0)) _
    (spell_value w name.1 value) (λ placed. attribute_least prefix name.0 placed.0)
said_least w table (an_item (Text value)) =
    mapped (λ (p : Placed Node). 1 ≤ length (chosen_bytes p.0)) _
    (spell_value w table value) (λ placed. value_some false placed.0)
said_least w table (an_item (Comment text)) = comment_least text
said_least w table (an_item (Array a)) = by (spell_array w table a) (array_least w table a)
  where
    by : (found : Option (Placed ArrayNode))
        → IfSome found (λ p. least_of_array a ≤ length (array_bytes p.0))
        → IfSome (option_map as_node found)
        (λ p. least_payload (Array a ∷ []) ≤ length (chosen_bytes p.0))
    by None h = tt
    by (Some placed) h = omega (arith, h)
said_least w table (an_item Close) = omega arith
said_least w table (last_text value) =
    mapped (λ (p : Placed Node). 1 ≤ length (chosen_bytes p.0)) _
    (spell_value w table value) (λ placed. value_some true placed.0)

-- records
abbrev all_said : List Said → List Item
all_said = flat_map items_said

abbrev AreRecords : List Said → Placed (List Node) → Type 0
AreRecords records p = least_payload (all_said records) ≤ length (flat_map chosen_bytes p.0)

records_least : (w : Writing) (table : StringTable) (at : ℕ) (records : List Said)
    → IfOk (spell_from w table at records) (AreRecords records)
records_least w table at [] = omega arith
records_least w table at (said ∷ rest) =
    by (spell_said w table said) (said_least w table said)
    (λ t. records_least w t (at + length (items_said said)) rest)
  where
    both : (first : Placed Node) (more : Result (Placed (List Node)) ℕ)
        → least_payload (items_said said) ≤ length (chosen_bytes first.0)
        → IfOk more (AreRecords rest)
        → IfOk (with_first first.0 more) (AreRecords (said ∷ rest))
    both first (Err item) one others = tt
    both first (Ok more) one others =
        omega (
          arith,
          one,
          others,
          sum_by-append least_of_item (items_said said) (all_said rest),
          length-append (chosen_bytes first.0) (flat_map chosen_bytes more.0),
        )

    by : (found : Option (Placed Node))
        → IfSome found (λ p. least_payload (items_said said) ≤ length (chosen_bytes p.0))
        → ((t : StringTable)
        → IfOk (spell_from w t (at + length (items_said said)) rest) (AreRecords rest))
        → IfOk (and_then found at
        (λ behind. spell_from w behind (at + length (items_said said)) rest))
        (AreRecords (said ∷ rest))
    by None one others = tt
    by (Some first) one others =
        both first (spell_from w first.1 (at + length (items_said said)) rest) one (others first.1)

-- a payload
pub payload_least : (w : Writing) (table : StringTable) (items : List Item)
    → IfOk (chosen w table items) (λ payload. least_payload items ≤ length payload.0)
payload_least w table items =
    by (spell_from w table 0 (in_records items)) (records_least w table 0 (in_records items))
  where
    by : (found : Result (Placed (List Node)) ℕ)
        → IfOk found
        (λ p. least_payload (all_said (in_records items)) ≤ length (flat_map chosen_bytes p.0))
        → IfOk (chosen_of w.kind table found)
        (λ payload. least_payload items ≤ length payload.0)
    by (Err item) h = tt
    by (Ok placed) h =
        omega (
          arith,
          h,
          ap least_payload (in_records_said items),
          length-append (opening_bytes w.kind (strings_behind table placed.1))
              (flat_map chosen_bytes placed.0),
        )

-- what may not fit doesn't
pub large_is_unwritten : LargeIsUnwritten
large_is_unwritten limits kind table items unfit =
    by (encoded limits kind table items) refl
  where
    fits_then : (fits : Fits limits kind table items) → may_fit limits items ≡ true
    fits_then fits =
        let least : least_payload items ≤ length fits.payload.0 =
        rw fits.chosen_is at (payload_least (writing limits kind) table items) in
        rw (
          le-leb (least_payload items) limits.payload (omega (arith, least, fits.within)),
          le-leb (content_of items) limits.content fits.content,
        )
        refl

    by : (found : Result (Placed (List ℕ)) Unfit) → encoded limits kind table items ≡ found
        → (why : Unfit) × (encoded limits kind table items ≡ Err why)
    by (Err why) is = (why, is)
    by (Ok payload) is =
        let fit = fits_then (fits_so limits kind table items payload is).0 in
        absurd (cc (sym unfit ∙ fit))
