use Rattle.nbfx_records.{proofs.BegunFacts.end_begun, specs.Shapes.ends_element}
use Rattle.nbfx_decoder.{specs.Units.place_in, proofs.Saying.end_made}
use Rattle.nbfx_decoder.proofs.units.UnitReader.end_element.Goals as goal

pub pass_quickly-requires-clause-stands : goal.pass_quickly-requires-clause-stands
pass_quickly-requires-clause-stands c =
    let may = let no = c.if-not-takes.false in c.takes.ensures.0 cc in
    record {
      shape = ends_element;
      single = tt;
      stands = record {
        bytes = c.args.bytes.now;
        are = λ i. (c.type_inv.bytes i).fits;
        few =
            c.requires.few;
        has = record
            { whole = end_begun (place_in c.args.self.now) c.requires.begins may };
      };
      makes = end_made;
    }

pub returns : goal.returns
returns c =
    let may = let no = c.if-not-takes.false in c.takes.ensures.0 cc in
    c.pass_quickly.ensures ends_element c.args.bytes.now
    (record { whole = end_begun (place_in c.args.self.now) c.requires.begins may }) end_made
