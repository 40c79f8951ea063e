-- What the meaning of a record counts in a document's content. Public contracts cite none of this.
use Rattle.std.specs.Prelude.{◌≡◌, ℕ, ◌+◌, List, length, Some, None, Ok, Err, sum_by, Option}
use Rattle.std.specs.Prelude.{Result, option_map, ⊤}
use Rattle.string_tables.specs.StringTable.{StringTable}
use Rattle.nbfx_values.specs.Measures.{array_content, attribute_content, capped, content_of}
use Rattle.nbfx_values.specs.Measures.{scalar_content, value_content}
use Rattle.nbfx_records.specs.declared.nodes.{ArrayNode.ArrayNode, Node.Node}
use Rattle.nbfx_records.specs.declared.nodes.{AttrNode.AttrNode, NameRef.NameRef}
use Rattle.nbfx_records.specs.declared.nodes.{NodeFault.NodeFault, RawValue.RawValue}
use Rattle.nbfx_records.specs.declared.nodes.NodeFault.TheVariants.{Memory, Record}
use Rattle.nbfx_records.specs.declared.nodes.{RawScalar.RawScalar, RecordFault.RecordFault}
use Rattle.nbfx_records.specs.{Contents.each, Meaning.name_text}
use Rattle.nbfx_records.specs.Meaning.{items_of, meant_array, meant_part, meant_scalar, meant_value}

-- how much something counts that is meant; none where an identifier names no string
abbrev pub weighed : {B : Type 0} → (B → ℕ) → Option B → Option ℕ
weighed content found = option_map (λ b. capped (content b)) found

abbrev pub weigh_name : StringTable → NameRef → Option ℕ
weigh_name table name = weighed length (name_text table name)

abbrev pub weigh_scalar : StringTable → RawScalar → Option ℕ
weigh_scalar table raw = weighed scalar_content (meant_scalar table raw)

abbrev pub weigh_scalars : StringTable → List RawScalar → Option ℕ
weigh_scalars table raws = weighed (sum_by scalar_content) (each (meant_scalar table) raws)

abbrev pub weigh_value : StringTable → RawValue → Option ℕ
weigh_value table raw = weighed value_content (meant_value table raw)

abbrev pub weigh_part : StringTable → AttrNode → Option ℕ
weigh_part table part = weighed attribute_content (meant_part table part)

abbrev pub weigh_parts : StringTable → List AttrNode → Option ℕ
weigh_parts table parts = weighed (sum_by attribute_content) (each (meant_part table) parts)

abbrev pub weigh_array : StringTable → ArrayNode → Option ℕ
weigh_array table array = weighed array_content (meant_array table array)

abbrev pub weigh_node : StringTable → Node → Option ℕ
weigh_node table node = weighed content_of (items_of table node)

-- what two count together
abbrev pub sum_of : Option ℕ → Option ℕ → Option ℕ
sum_of None more = None
sum_of (Some n) None = None
sum_of (Some n) (Some m) = Some (capped (n + m))

-- what is found to be counted by what parts say that are judged so
abbrev pub Measured : {A : Type 0} → Result A RecordFault → (A → Option ℕ)
    → Result (Option ℕ) NodeFault → Type 0
Measured {A} judged weigh (Ok found) = (a : A) × (judged ≡ Ok a) × (found ≡ weigh a)
Measured judged weigh (Err (Record fault)) = judged ≡ Err fault
Measured judged weigh (Err Memory) = ⊤

pub record Measures {A : Type 0} (judged : Result A RecordFault) (weigh : A → Option ℕ)
    (result : Result (Option ℕ) NodeFault) : Type 0 where
  pub told : Measured judged weigh result
