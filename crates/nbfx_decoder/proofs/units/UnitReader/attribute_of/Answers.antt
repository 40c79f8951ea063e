use Rattle.{std.proofs.Common.sym, std.proofs.Common.subst, nbfx_decoder.specs.Units.HasOne}
use Rattle.nbfx_records.specs.declared.attributes.AttributePart.TheVariants.{Attribute}
use Rattle.nbfx_records.specs.Views.{record_seen, value_seen}
use Rattle.nbfx_records.specs.declared.records.RecordPart.TheVariants as records
use Rattle.nbfx_decoder.proofs.units.UnitReader.attribute_of.Goals as goal

pub pass_quickly-requires-clause-stands : goal.pass_quickly-requires-clause-stands
pass_quickly-requires-clause-stands c = record {
  shape = record_seen
      (records.Attribute (Attribute c.args.prefix.now c.args.name.now c.args.value));
  single = subst (λ v. HasOne (value_seen v)) (sym c.in-One.is) tt;
  stands = c.requires.stands;
  makes = c.attribute_node.ensures;
}

pub returns-in-One : goal.returns-in-One
returns-in-One c bytes has = c.pass_quickly.ensures
    (record_seen (records.Attribute (Attribute c.args.prefix.now c.args.name.now c.args.value)))
    bytes has c.attribute_node.ensures
