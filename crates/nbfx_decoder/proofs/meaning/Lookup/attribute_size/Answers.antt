use Rattle.std.proofs.Common.{◌+◌, ◌&&◌, length, Some}
use Rattle.{std.specs.Str.is_utf8, nbfx_records.specs.Meaning.name_text}
use Rattle.nbfx_records.specs.Contents.{name_is_text, shape_value, value_is_text}
use Rattle.nbfx_records.specs.Views.{name_seen, prefix_seen, value_seen}
use Rattle.nbfx_decoder.specs.{Meant.table_of, Measuring.weigh_part, Measuring.weighed}
use Rattle.nbfx_decoder.proofs.MeasureFacts.{attribute_measured, declaration_weighed, measured_as}
use Rattle.nbfx_records.specs.declared.nodes.AttrNode.TheVariants as attribute_nodes
use Rattle.nbfx_decoder.proofs.meaning.Lookup.attribute_size.Goals as goal

pub returns-in_ok-value_size-in-Attribute : goal.returns-in_ok-value_size-in-Attribute
returns-in_ok-value_size-in-Attribute c =
    let prefix = prefix_seen c.in-Attribute.prefix in
    let name = name_seen c.in-Attribute.name in
    let value = value_seen c.in-Attribute.value in
    let names = c.in_ok-names-in-Attribute.ensures.told in
    rw (c.in-Attribute.is, c.together.ensures) (record {
      told = attribute_measured (table_of c.args.self.now) prefix name names.0 (is_utf8 prefix)
          (name_is_text name) (value_is_text value) (shape_value value) names.1
          c.in_ok-names-in-Attribute.names names.2 c.in_ok-value_size-in-Attribute.field-0
          c.in_ok-value_size-in-Attribute.ensures.told;
    })

pub returns-in-Declaration : goal.returns-in-Declaration
returns-in-Declaration c =
    let table = table_of c.args.self.now in
    let prefix = prefix_seen c.in-Declaration.prefix in
    let uri = name_seen c.in-Declaration.uri in
    rw c.in-Declaration.is (record {
      told = measured_as (attribute_nodes.Xmlns prefix) (is_utf8 prefix && name_is_text uri)
          (Some uri) (λ named. weighed (λ local. length prefix + length local)
          (name_text table named)) (weigh_part table)
          (declaration_weighed table prefix) _ c.names_size-in-Declaration.ensures.told;
    })
