-- What is written of a record, by what was written of what it says.
use Rattle.std.proofs.Common.{◌≡◌, ℕ, ◌<◌, ◌≤◌, true, List, [], ◌∷◌, length, get_or, drop, IfErr}
use Rattle.std.proofs.Common.{OnOk, Some, None, Ok, Err, Option, Result, option_map, sym, refl, ap}
use Rattle.std.proofs.Common.{◌∙◌, subst, append-nil, arith}
use Rattle.std.{specs.Prelude.⊤, proofs.lemmas.List.drop_more}
use Rattle.string_tables.specs.StringTable.{StringTable}
use Rattle.nbfx_values.specs.declared.{content.Item.Item, scalars.Value.Value}
use Rattle.nbfx_records.specs.declared.nodes.{AttrNode.AttrNode, Node.Node}
use Rattle.nbfx_records.specs.declared.nodes.{NameRef.NameRef, RawValue.RawValue}
use Rattle.nbfx_records.specs.Chosen.{chosen_bytes, part_bytes, value_bytes}
use Rattle.nbfx_encoder.{specs.declared.faults.EncodeFault.EncodeFault, proofs.Parts.made_answers}
use Rattle.nbfx_encoder.specs.declared.speller.{SpellFault.SpellFault, Speller.Speller}
use Rattle.nbfx_encoder.specs.declared.speller.SpellFault.TheVariants.{Memory, Unnamed}
use Rattle.nbfx_encoder.specs.Inside.{Answers, fault_told, names_of, PutsRecord, writing_of}
use Rattle.nbfx_encoder.specs.Placing.{place, Placed, spell_part, spell_value, Writing}
use Rattle.nbfx_encoder.specs.Spelling.{an_item, in_records, items_said, last_text, Said}
use Rattle.nbfx_encoder.specs.Spelling.{spell_item, spell_said}
use Rattle.nbfx_values.specs.declared.content.AttrItem.TheVariants as attributes
use Rattle.nbfx_values.specs.declared.content.Item.TheVariants as items
use Rattle.nbfx_records.specs.declared.nodes.AttrNode.TheVariants as attribute_nodes
use Rattle.nbfx_records.specs.declared.nodes.Node.TheVariants as nodes

-- the node of a declaration or an attribute
abbrev node_of : AttrNode → Node
node_of (attribute_nodes.Attribute prefix name value) = nodes.Attribute prefix name value
node_of (attribute_nodes.Xmlns prefix uri) = nodes.Xmlns prefix uri

node_bytes : (part : AttrNode) → part_bytes part ≡ chosen_bytes (node_of part)
node_bytes (attribute_nodes.Attribute prefix name value) = refl
node_bytes (attribute_nodes.Xmlns prefix uri) = refl

abbrev as_part : List ℕ → NameRef → Placed RawValue → Placed AttrNode
as_part prefix name p = (attribute_nodes.Attribute prefix name p.0, p.1)

abbrev as_node : List ℕ → NameRef → Placed RawValue → Placed Node
as_node prefix name p = (nodes.Attribute prefix name p.0, p.1)

abbrev as_node_of : Placed AttrNode → Placed Node
as_node_of p = (node_of p.0, p.1)

through : (prefix : List ℕ) (name : NameRef) (found : Option (Placed RawValue))
    → option_map as_node_of (option_map (as_part prefix name) found)
    ≡ option_map (as_node prefix name) found
through prefix name None = refl
through prefix name (Some p) = refl

-- an attribute as an item
pub attribute_answers : (w : Writing) (table : StringTable) (prefix local : List ℕ) (value : Value)
    (result : Result ⊤ SpellFault) (old new : Speller)
    → Answers (spell_part w table (attributes.Attr prefix local value)) part_bytes result old new
    → Answers (spell_item w table (items.Attr prefix local value)) chosen_bytes result old new
attribute_answers w table prefix local value result old new spelled =
    let name = place w table local in
    let part = spell_part w table (attributes.Attr prefix local value) in
    subst (λ (found : Option (Placed Node)). Answers found chosen_bytes result old new)
    (through prefix name.0 (spell_value w name.1 value))
    (made_answers node_of [] [] part_bytes chosen_bytes
    (λ p. append-nil (part_bytes p) ∙ node_bytes p) part result old old new spelled
    (sym (append-nil old.nodes.items)) refl)

-- a text as a record
pub text_answers : (w : Writing) (table : StringTable) (value : Value)
    (result : Result ⊤ SpellFault) (old new : Speller)
    → Answers (spell_value w table value) (value_bytes true) result old new
    → Answers (spell_said w table (last_text value)) chosen_bytes result old new
text_answers w table value result old new spelled =
    made_answers (λ (raw : RawValue). nodes.Text raw true) [] [] (value_bytes true) chosen_bytes
    (λ raw. append-nil (value_bytes true raw)) (spell_value w table value) result old old new
    spelled (sym (append-nil old.nodes.items)) refl

-- the first record of items
pub puts_record : (items : List Item) (count at : ℕ) (said : Said) (put : Result ⊤ SpellFault)
    (result : Result ℕ EncodeFault) (old new : Speller)
    → in_records items ≡ said ∷ in_records (drop count items) → count ≡ length (items_said said)
    → count ≤ length items → Answers (spell_said (writing_of old) (names_of old) said) chosen_bytes
    put old new → OnOk put (result ≡ Ok count)
    → IfErr put (λ fault. result ≡ Err (fault_told fault at)) → PutsRecord items at result old new
puts_record items count at said (Ok u) result old new first counted within spelled ok err =
    subst (λ (r : Result ℕ EncodeFault). PutsRecord items at r old new) (sym ok)
    (record { said = said; first = first; counted = counted; within = within; wrote = spelled })
puts_record items count at said (Err Unnamed) result old new first counted within spelled ok err =
    subst (λ (r : Result ℕ EncodeFault). PutsRecord items at r old new) (sym err) (
      refl,
      record {
        said = said;
        rest = in_records (drop count items);
        first = first;
        none =
            spelled;
      },
    )
puts_record items count at said (Err Memory) result old new first counted within spelled ok err =
    subst (λ (r : Result ℕ EncodeFault). PutsRecord items at r old new) (sym err) tt

-- a text right before an end
pub puts_text : (all : List Item) (value : Value) (rest : List Item) (at : ℕ)
    (put : Result ⊤ SpellFault) (result : Result ℕ EncodeFault) (old new : Speller)
    → all ≡ items.Text value ∷ items.Close ∷ rest
    → Answers (spell_value (writing_of old) (names_of old) value) (value_bytes true) put old new
    → OnOk put (result ≡ Ok 2) → IfErr put (λ fault. result ≡ Err (fault_told fault at))
    → PutsRecord all at result old new
puts_text all value rest at put result old new is spelled ok err =
    subst (λ (l : List Item). PutsRecord l at result old new) (sym is)
    (puts_record (items.Text value ∷ items.Close ∷ rest) 2 at (last_text value) put result old new
    refl refl (omega arith) (text_answers (writing_of old) (names_of old) value put old new
    spelled) ok err)

-- another item
pub puts_item : (all : List Item) (item : Item) (at : ℕ) (put : Result ⊤ SpellFault)
    (result : Result ℕ EncodeFault) (old new : Speller) → 0 < length all → item ≡ get_or all 0 item
    → ((one : Item) (rest : List Item) → all ≡ one ∷ rest
    → in_records all ≡ an_item one ∷ in_records rest)
    → Answers (spell_item (writing_of old) (names_of old) item) chosen_bytes put old new
    → OnOk put (result ≡ Ok 1) → IfErr put (λ fault. result ≡ Err (fault_told fault at))
    → PutsRecord all at result old new
puts_item all item at put result old new some is alone spelled ok err =
    let first : all ≡ item ∷ drop 1 all =
    drop_more all 0 item some ∙ ap (λ x. x ∷ drop 1 all) (sym is) in
    puts_record all 1 at (an_item item) put result old new (alone item (drop 1 all) first) refl
    (omega (arith, some)) spelled ok err
