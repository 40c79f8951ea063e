use Rattle.std.{proofs.Common.Some, proofs.Common.option_map, specs.Str.is_utf8}
use Rattle.nbfx_records.specs.Contents.{attribute_node, contents, name_is_text, shape_value}
use Rattle.nbfx_records.specs.Contents.{value_is_text}
use Rattle.nbfx_records.specs.Views.{name_seen, prefix_seen, value_seen}
use Rattle.nbfx_records.proofs.JudgedFacts.{exit, texts_of_made, unmade_otherwise}
use Rattle.nbfx_records.specs.declared.nodes.AttrNode.TheVariants as attribute_nodes
use Rattle.nbfx_records.proofs.building.attribute_node.Goals as goal

pub returns-in_err-value : goal.returns-in_err-value
unfolding contents
returns-in_err-value c =
    let prefix = prefix_seen c.args.prefix_part.now in
    let name = name_seen c.args.name_part.now in
    let value = value_seen c.args.value_part.now in
    let in_prefix = texts_of_made (is_utf8 prefix) (Some prefix) c.in_ok-prefix.field-0
    c.in_ok-prefix.ensures.made in
    let in_name = texts_of_made (name_is_text name) (Some name) c.in_ok-name.field-0
    c.in_ok-name.ensures.made in
    rw (in_prefix, in_name) (exit c.from_residual-in_err-value.ensures.1
    (unmade_otherwise attribute_node (value_is_text value)
    (option_map (attribute_nodes.Attribute prefix name) (shape_value value))
    (unmade_otherwise (attribute_nodes.Attribute prefix name) (value_is_text value)
    (shape_value value) c.in_err-value.ensures)))
