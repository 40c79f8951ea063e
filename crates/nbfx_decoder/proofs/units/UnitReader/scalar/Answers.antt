use Rattle.nbfx_records.specs.{declared.attributes.ValuePart.TheVariants.One, Views.record_seen}
use Rattle.nbfx_records.specs.declared.records.RecordPart.TheVariants as records
use Rattle.nbfx_decoder.proofs.units.UnitReader.scalar.Goals as goal

pub pass_quickly-requires-clause-stands : goal.pass_quickly-requires-clause-stands
pass_quickly-requires-clause-stands c = record {
  shape = record_seen (records.Text (One c.args.part) c.args.ends);
  single = tt;
  stands =
      c.requires.stands;
  makes = c.text_node.ensures;
}

pub returns : goal.returns
returns c bytes has = c.pass_quickly.ensures
    (record_seen (records.Text (One c.args.part) c.args.ends)) bytes has c.text_node.ensures
