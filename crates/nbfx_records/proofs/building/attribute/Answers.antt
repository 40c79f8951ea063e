use Rattle.std.{proofs.Common.Some, specs.Str.is_utf8}
use Rattle.nbfx_records.specs.Contents.{name_is_text, shape_value, value_is_text}
use Rattle.nbfx_records.specs.Views.{name_seen, prefix_seen, value_seen}
use Rattle.nbfx_records.proofs.JudgedFacts.{exit, texts_of_made, unmade_otherwise}
use Rattle.nbfx_records.specs.declared.nodes.AttrNode.TheVariants as attribute_nodes
use Rattle.nbfx_records.proofs.building.attribute.Goals as goal

pub returns-in_err-value-in-Attribute : goal.returns-in_err-value-in-Attribute
returns-in_err-value-in-Attribute c =
    let prefix = prefix_seen c.in-Attribute.prefix_part in
    let name = name_seen c.in-Attribute.name_part in
    let value = value_seen c.in-Attribute.value_part in
    let in_prefix = texts_of_made (is_utf8 prefix) (Some prefix) c.in_ok-prefix-in-Attribute.field-0
    c.in_ok-prefix-in-Attribute.ensures.made in
    let in_name = texts_of_made (name_is_text name) (Some name) c.in_ok-name-in-Attribute.field-0
    c.in_ok-name-in-Attribute.ensures.made in
    rw (c.in-Attribute.is, in_prefix, in_name)
    (exit c.from_residual-in_err-value-in-Attribute.ensures.1
    (unmade_otherwise (attribute_nodes.Attribute prefix name) (value_is_text value)
    (shape_value value) c.in_err-value-in-Attribute.ensures))
