use Rattle.std.proofs.Common.{◌+◌, ◌&&◌, length, Some, refl}
use Rattle.{std.specs.Str.is_utf8, nbfx_values.specs.Measures.capped}
use Rattle.nbfx_records.specs.Contents.{array_of, attribute_is_text, attribute_node}
use Rattle.nbfx_records.specs.Contents.{attribute_value, contents, is_text, name_is_text}
use Rattle.nbfx_records.specs.Contents.{shape_value, value_is_text}
use Rattle.nbfx_records.specs.{Meaning.name_text, Shapes.repeats}
use Rattle.nbfx_records.specs.Views.{array_seen, attribute_seen, name_seen, prefix_seen, value_seen}
use Rattle.nbfx_decoder.specs.Meant.{table_of}
use Rattle.nbfx_decoder.specs.Measuring.{weigh_array, weigh_node, weigh_part, weigh_value, weighed}
use Rattle.nbfx_decoder.proofs.MeasureFacts.{array_node_weighed, attribute_weighed, comment_weighed}
use Rattle.nbfx_decoder.proofs.MeasureFacts.{element_weighed, measured_as, text_weighed}
use Rattle.nbfx_records.specs.declared.nodes.Node.TheVariants as nodes
use Rattle.nbfx_decoder.proofs.meaning.Lookup.record_size.Goals as goal

pub returns-in-EndElement : goal.returns-in-EndElement
unfolding contents
returns-in-EndElement c = rw c.in-EndElement.is (record { told = (nodes.EndElement, refl, refl) })

pub returns-in-Comment : goal.returns-in-Comment
unfolding contents
returns-in-Comment c =
    let table = table_of c.args.self.now in
    let bytes = c.in-Comment.bytes.now in
    rw c.in-Comment.is
    (record {
      told = measured_as nodes.Comment (is_utf8 bytes) (Some bytes)
          (λ text. Some (capped (length text))) (weigh_node table) (comment_weighed table) _
          c.comment_size.ensures.told;
    })

pub returns-in-Element : goal.returns-in-Element
unfolding contents
returns-in-Element c =
    let table = table_of c.args.self.now in
    let prefix = prefix_seen c.in-Element.part.prefix in
    let name = name_seen c.in-Element.part.name in
    rw c.in-Element.is (record {
      told = measured_as (nodes.Element prefix) (is_utf8 prefix && name_is_text name) (Some name)
          (λ named. weighed (λ local. length prefix + length local) (name_text table named))
          (weigh_node table) (element_weighed table prefix) _
          c.names_size.ensures.told;
    })

pub returns-in-Attribute : goal.returns-in-Attribute
unfolding contents
returns-in-Attribute c =
    let table = table_of c.args.self.now in
    let a = attribute_seen c.in-Attribute.part in
    rw c.in-Attribute.is
    (record {
      told = measured_as attribute_node (attribute_is_text a) (attribute_value a)
          (weigh_part table) (weigh_node table) (attribute_weighed table) _ c.attribute_size.ensures.told;
    })

pub returns-in-Text : goal.returns-in-Text
unfolding contents
returns-in-Text c =
    let table = table_of c.args.self.now in
    let v = value_seen c.in-Text.part in
    let ends = c.in-Text.field-1 in
    rw c.in-Text.is
    (record {
      told = measured_as (λ raw. nodes.Text raw ends) (value_is_text v) (shape_value v)
          (weigh_value table) (weigh_node table) (text_weighed table ends) _ c.value_size.ensures.told;
    })

pub returns-in-Array : goal.returns-in-Array
unfolding contents
returns-in-Array c =
    let table = table_of c.args.self.now in
    let a = array_seen c.in-Array.part in
    rw c.in-Array.is
    (record {
      told = measured_as nodes.Array (is_text (repeats a)) (array_of a) (weigh_array table)
          (weigh_node table) (array_node_weighed table) _ c.array_size.ensures.told;
    })
