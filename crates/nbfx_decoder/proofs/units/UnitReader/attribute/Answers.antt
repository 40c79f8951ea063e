use Rattle.nbfx_decoder.specs.Units.{place_in}
use Rattle.nbfx_decoder.proofs.units.UnitReader.attribute.Goals as goal

pub attribute_of-requires-clause-stands : goal.attribute_of-requires-clause-stands
attribute_of-requires-clause-stands c =
    let may = let no = c.if-not-takes.false in c.takes.ensures.0 cc in
    let told = rw c.in-Ok-Attribute-default.field-0-0-is at c.in-Ok-Attribute-default.ensures.tells
    (place_in c.args.self.now) may in
    record {
      bytes = c.args.bytes.now;
      are = λ i. (c.type_inv.bytes i).fits;
      few = c.requires.few;
      has = record { whole = told.told };
    }

pub returns-in-Ok-Attribute-default : goal.returns-in-Ok-Attribute-default
returns-in-Ok-Attribute-default c =
    let may = let no = c.if-not-takes.false in c.takes.ensures.0 cc in
    let told = rw c.in-Ok-Attribute-default.field-0-0-is at c.in-Ok-Attribute-default.ensures.tells
    (place_in c.args.self.now) may in
    c.attribute_of.ensures c.args.bytes.now (record { whole = told.told })
