use Rattle.{nbfx_records.specs.Views.record_seen, nbfx_decoder.specs.Units.place_in}
use Rattle.nbfx_records.specs.declared.records.RecordPart.TheVariants as records
use Rattle.nbfx_decoder.proofs.units.UnitReader.element.Goals as goal

pub pass_quickly-requires-clause-stands : goal.pass_quickly-requires-clause-stands
pass_quickly-requires-clause-stands c =
    let may = let no = c.if-not-takes.false in c.takes.ensures.0 cc in
    let told = c.in-Ok.ensures (place_in c.args.self.now) may in
    record {
      shape = record_seen (records.Element c.in-Ok.part);
      single = tt;
      stands = record {
        bytes = c.args.bytes.now;
        are = λ i. (c.type_inv.bytes i).fits;
        few =
            c.requires.few;
        has = record { whole = told.told };
      };
      makes = c.element_node.ensures;
    }

pub returns-in-Ok : goal.returns-in-Ok
returns-in-Ok c =
    let may = let no = c.if-not-takes.false in c.takes.ensures.0 cc in
    let told = c.in-Ok.ensures (place_in c.args.self.now) may in
    c.pass_quickly.ensures (record_seen (records.Element c.in-Ok.part)) c.args.bytes.now
    (record { whole = told.told }) c.element_node.ensures
