use Rattle.std.{proofs.Common.Ok, specs.List.list_all}
use Rattle.{nbfx_values.specs.Measures.value_content, nbfx_decoder.specs.Meant.table_of}
use Rattle.nbfx_records.specs.declared.nodes.RawValue.TheVariants.{List as ListOf, One}
use Rattle.nbfx_records.specs.Contents.{each, scalar_is_text, scalar_value}
use Rattle.nbfx_records.specs.{Meaning.meant_scalar, Views.listed, Views.scalar_seen}
use Rattle.nbfx_decoder.specs.Measuring.{weigh_scalar, weigh_scalars, weigh_value}
use Rattle.nbfx_decoder.proofs.MeasureFacts.{measured_as, weighed-map}
use Rattle.nbfx_values.specs.declared.scalars.Value.TheVariants as values
use Rattle.nbfx_decoder.proofs.meaning.Lookup.value_size.Goals as goal

pub returns-in_ok-raw-in-One : goal.returns-in_ok-raw-in-One
returns-in_ok-raw-in-One c =
    let table = table_of c.args.self.now in
    let scalar = scalar_seen c.in-One.part in
    rw c.in-One.is (record {
      told = measured_as One (scalar_is_text scalar) (scalar_value scalar) (weigh_scalar table)
          (weigh_value table) (λ raw. weighed-map value_content values.One (meant_scalar table raw))
          (Ok c.scalar_size-size.result)
          (c.in_ok-raw-in-One.raw, c.in_ok-raw-in-One.ensures.made, c.scalar_size-size.ensures);
    })

pub returns-in-List : goal.returns-in-List
returns-in-List c =
    let table = table_of c.args.self.now in
    let list = listed c.in-List.list.now in
    rw c.in-List.is (record {
      told = measured_as ListOf (list_all scalar_is_text list) (each scalar_value list)
          (weigh_scalars table) (weigh_value table)
          (λ raws. weighed-map value_content values.List (each (meant_scalar table) raws)) _
          c.list_size.ensures.told;
    })
