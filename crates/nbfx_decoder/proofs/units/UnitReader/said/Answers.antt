use Rattle.std.proofs.Common.{IfOk, sym, subst}
use Rattle.nbfx_records.specs.{Shapes.Shape, Views.listed}
use Rattle.nbfx_decoder.specs.{Meant.table_of, Units.IsSaid, Units.MakesValid, Units.MayMake}
use Rattle.nbfx_decoder.proofs.Listing.{list_all_said, list_means, list_part}
use Rattle.nbfx_decoder.proofs.units.UnitReader.said.Goals as goal

pub list_text-requires-clause-means : goal.list_text-requires-clause-means
list_text-requires-clause-means c =
    let text = c.in-Text in
    let list = c.in-List.list in
    let seen = list_part c.args.part.now text.value text.ends list text.is c.in-List.is in
    list_means (listed list.now) text.ends c.args.self.now (table_of c.names.result)
    c.names.ensures (subst (MayMake c.args.self.now) seen c.requires.within)
    (subst MakesValid seen c.requires.valid)

pub returns-in-List-clause-said : goal.returns-in-List-clause-said
returns-in-List-clause-said c =
    let text = c.in-Text in
    let list = c.in-List.list in
    let seen = list_part c.args.part.now text.value text.ends list text.is c.in-List.is in
    subst (λ (shape : Shape). IfOk c.list_text.result (IsSaid c.args.self.now shape)) (sym seen)
    (list_all_said (listed list.now) text.ends c.args.self.now (table_of c.names.result)
    c.names.ensures c.list_text.result c.list_text.ensures.says)
