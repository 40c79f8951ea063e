use Rattle.nbfx_records.specs.{declared.attributes.ValuePart.TheVariants.One, Views.record_seen}
use Rattle.nbfx_records.specs.declared.parts.ScalarPart.TheVariants.{Bytes}
use Rattle.nbfx_decoder.specs.Units.{place_in}
use Rattle.nbfx_records.specs.declared.records.RecordPart.TheVariants as records
use Rattle.nbfx_decoder.proofs.units.UnitReader.text.Goals as goal

pub pass_quickly-requires-clause-stands : goal.pass_quickly-requires-clause-stands
pass_quickly-requires-clause-stands c =
    let may = let no = c.if-not-takes.false in c.takes.ensures.0 cc in
    let told = rw c.in-Ok-Bytes-default.field-0-0-is at c.in-Ok-Bytes-default.ensures
    (place_in c.args.self.now) may in
    record {
      shape = record_seen
          (records.Text (One (Bytes c.in-Ok-Bytes-default.kind c.in-Ok-Bytes-default.chars))
          c.args.ends);
      single = tt;
      stands = record {
        bytes = c.args.bytes.now;
        are = λ i. (c.type_inv.bytes i).fits;
        few =
            c.requires.few;
        has = record { whole = told.told };
      };
      makes = c.chars_node.ensures;
    }

pub returns-in-Ok-Bytes-default : goal.returns-in-Ok-Bytes-default
returns-in-Ok-Bytes-default c =
    let may = let no = c.if-not-takes.false in c.takes.ensures.0 cc in
    let told = rw c.in-Ok-Bytes-default.field-0-0-is at c.in-Ok-Bytes-default.ensures
    (place_in c.args.self.now) may in
    c.pass_quickly.ensures
    (record_seen (records.Text (One (Bytes c.in-Ok-Bytes-default.kind c.in-Ok-Bytes-default.chars))
    c.args.ends)) c.args.bytes.now (record { whole = told.told }) c.chars_node.ensures
