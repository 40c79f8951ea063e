-- How a writer spells names and values, where the session's strings so far are given: what is
-- written,
-- and the strings behind it.
use Rattle.std.specs.Prelude.{ℕ, ◌+◌, ◌*◌, Bool, true, false, ◌&&◌, List, [], ◌∷◌, length}
use Rattle.std.specs.Prelude.{if◌then◌else◌, nat_le, Some, None, Option, option_map}
use Rattle.std.specs.Prelude.{option_and_then}
use Rattle.string_tables.specs.SessionStrings.{cost, used_cost}
use Rattle.string_tables.specs.StringTable.{chosen_id, StringTable, with_strings}
use Rattle.nbfx_values.specs.declared.content.{ArrayItem.ArrayItem, AttrItem.AttrItem}
use Rattle.nbfx_values.specs.declared.scalars.{Scalar.Scalar, Value.Value}
use Rattle.nbfx_values.specs.declared.session.Kind.{Kind, TheVariants.Plain, TheVariants.Session}
use Rattle.nbfx_records.specs.declared.nodes.{ArrayNode.ArrayNode, AttrNode.AttrNode}
use Rattle.nbfx_records.specs.declared.nodes.NameRef.{NameRef, TheVariants.Id, TheVariants.Inline}
use Rattle.nbfx_records.specs.declared.nodes.{RawScalar.RawScalar, RawValue.RawValue}
use Rattle.nbfx_records.specs.declared.nodes.RawScalar.TheVariants.{Dictionary, Known, QName}
use Rattle.nbfx_records.specs.declared.nodes.RawValue.TheVariants.{List as ListOf, One}
use Rattle.nbfx_values.specs.declared.content.AttrItem.TheVariants as attributes
use Rattle.nbfx_values.specs.declared.scalars.Scalar.TheVariants as scalars
use Rattle.nbfx_values.specs.declared.scalars.Value.TheVariants as values
use Rattle.nbfx_records.specs.declared.nodes.AttrNode.TheVariants as attribute_nodes

-- whether payloads bring strings, and what all of a direction may cost
pub record Writing : Type 0 where
  pub kind : Kind
  pub dictionary : ℕ

-- what is written, and the table behind it
abbrev pub Placed : Type 0 → Type 0
Placed X = X × StringTable

abbrev pub brings_strings : Kind → Bool
brings_strings Plain = false
brings_strings Session = true

-- whether a text may become a string of the session
abbrev pub has_room : Writing → StringTable → List ℕ → Bool
has_room w table text =
    brings_strings w.kind && nat_le (used_cost table.strings + cost text) w.dictionary

-- a name that no identifier names: as the next string of the session where it has room, else inline
abbrev pub place_new : Writing → StringTable → List ℕ → Placed NameRef
place_new w table text = if has_room w table text
    then (Id (2 * length table.strings + 1), with_strings table (text ∷ []))
    else (Inline text, table)

abbrev pub place_found : Writing → StringTable → List ℕ → Option ℕ → Placed NameRef
place_found w table text (Some id) = (Id id, table)
place_found w table text None = place_new w table text

-- a name of an element, an attribute or a QName, or a declared URI
abbrev pub place : Writing → StringTable → List ℕ → Placed NameRef
place w table text = place_found w table text (chosen_id table text)

-- A text that isn't empty is named where an identifier names it. It never becomes a string of the
-- session.
abbrev pub text_found : List ℕ → Option ℕ → RawScalar
text_found text (Some id) = Dictionary id
text_found text None = Known (scalars.Text text)

abbrev pub spell_text : StringTable → List ℕ → RawScalar
spell_text table [] = Known (scalars.Text [])
spell_text table text = text_found text (chosen_id table text)

-- the name of a QName needs an identifier
abbrev pub qualified : ℕ → StringTable → NameRef → Option (Placed RawScalar)
qualified letter table (Id id) = Some (QName letter id, table)
qualified letter table (Inline text) = None

abbrev pub spell_qname : Writing → StringTable → ℕ → List ℕ → Option (Placed RawScalar)
spell_qname w table letter name =
    let placed = place w table name in qualified letter placed.1 placed.0

abbrev pub spell_scalar : Writing → StringTable → Scalar → Option (Placed RawScalar)
spell_scalar w table (scalars.Text text) = Some (spell_text table text, table)
spell_scalar w table (scalars.QName letter name) = spell_qname w table letter name
spell_scalar w table value = Some (Known value, table)

-- each of a list, behind those before it
abbrev pub spell_each : {A B : Type 0} → (StringTable → A → Option (Placed B)) → StringTable
    → List A → Option (Placed (List B))
spell_each spell table [] = Some ([], table)
spell_each spell table (x ∷ xs) =
    option_and_then (λ first. option_map (λ rest. (first.0 ∷ rest.0, rest.1))
    (spell_each spell first.1 xs)) (spell table x)

abbrev pub spell_value : Writing → StringTable → Value → Option (Placed RawValue)
spell_value w table (values.One value) =
    option_map (λ placed. (One placed.0, placed.1)) (spell_scalar w table value)
spell_value w table (values.List xs) =
    option_map (λ placed. (ListOf placed.0, placed.1)) (spell_each (spell_scalar w) table xs)

-- an attribute's name goes before its value
abbrev pub spell_part : Writing → StringTable → AttrItem → Option (Placed AttrNode)
spell_part w table (attributes.Attr prefix local value) =
    let name = place w table local in
    option_map (λ placed. (attribute_nodes.Attribute prefix name.0 placed.0, placed.1))
    (spell_value w name.1 value)
spell_part w table (attributes.Xmlns prefix uri) =
    let name = place w table uri in Some (attribute_nodes.Xmlns prefix name.0, name.1)

-- an array's name goes before its attributes; its values name nothing
abbrev pub spell_array : Writing → StringTable → ArrayItem → Option (Placed ArrayNode)
spell_array w table a =
    let name = place w table a.local in
    option_map (λ placed. (
      record {
        prefix = a.prefix;
        name = name.0;
        attrs = placed.0;
        kind = a.kind;
        values = a.values;
      },
      placed.1,
    )) (spell_each (spell_part w) name.1 a.attrs)
