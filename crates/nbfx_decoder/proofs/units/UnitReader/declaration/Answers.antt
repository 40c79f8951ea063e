use Rattle.nbfx_records.specs.declared.attributes.AttributePart.TheVariants.{Declaration}
use Rattle.{nbfx_records.specs.Views.record_seen, nbfx_decoder.specs.Units.place_in}
use Rattle.nbfx_records.specs.declared.records.RecordPart.TheVariants as records
use Rattle.nbfx_decoder.proofs.units.UnitReader.declaration.Goals as goal

pub pass_quickly-requires-clause-stands : goal.pass_quickly-requires-clause-stands
pass_quickly-requires-clause-stands c =
    let may = let no = c.if-not-takes.false in c.takes.ensures.0 cc in
    let told = rw c.in-Ok-Declaration-default.field-0-0-is at
    c.in-Ok-Declaration-default.ensures.tells (place_in c.args.self.now) may in
    record {
      shape = record_seen
          (records.Attribute
          (Declaration c.in-Ok-Declaration-default.prefix c.in-Ok-Declaration-default.uri));
      single = tt;
      stands = record {
        bytes = c.args.bytes.now;
        are = λ i. (c.type_inv.bytes i).fits;
        few =
            c.requires.few;
        has = record { whole = told.told };
      };
      makes = c.declaration_node.ensures;
    }

pub returns-in-Ok-Declaration-default : goal.returns-in-Ok-Declaration-default
returns-in-Ok-Declaration-default c =
    let may = let no = c.if-not-takes.false in c.takes.ensures.0 cc in
    let told = rw c.in-Ok-Declaration-default.field-0-0-is at
    c.in-Ok-Declaration-default.ensures.tells (place_in c.args.self.now) may in
    c.pass_quickly.ensures
    (record_seen
    (records.Attribute
    (Declaration c.in-Ok-Declaration-default.prefix c.in-Ok-Declaration-default.uri)))
    c.args.bytes.now (record { whole = told.told }) c.declaration_node.ensures
