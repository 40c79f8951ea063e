use Rattle.std.proofs.Common.{IfOk, sym, subst}
use Rattle.nbfx_records.specs.{Shapes.Shape, Views.listed, Views.name_seen, Views.prefix_seen}
use Rattle.nbfx_decoder.specs.{Meant.table_of, Units.IsSaid, Units.MakesValid, Units.MayMake}
use Rattle.nbfx_decoder.proofs.Listing.{attribute_all_said, attribute_means, attribute_part}
use Rattle.nbfx_decoder.proofs.units.UnitReader.attribute_said.Goals as goal

pub list_attribute-requires-clause-means : goal.list_attribute-requires-clause-means
list_attribute-requires-clause-means c =
    let it = c.in-Attribute in
    let list = c.in-List.list in
    let seen =
    attribute_part c.args.part.now c.args.attribute.now it.prefix it.name it.value list
    c.requires.is it.is c.in-List.is in
    attribute_means (prefix_seen it.prefix) (name_seen it.name) (listed list.now) c.args.self.now
    (table_of c.names.result) c.names.ensures
    (subst (MayMake c.args.self.now) seen c.requires.within)
    (subst MakesValid seen c.requires.valid)

pub returns-in-List-clause-said : goal.returns-in-List-clause-said
returns-in-List-clause-said c =
    let it = c.in-Attribute in
    let list = c.in-List.list in
    let seen =
    attribute_part c.args.part.now c.args.attribute.now it.prefix it.name it.value list
    c.requires.is it.is c.in-List.is in
    let means =
    attribute_means (prefix_seen it.prefix) (name_seen it.name) (listed list.now) c.args.self.now
    (table_of c.names.result) c.names.ensures
    (subst (MayMake c.args.self.now) seen c.requires.within)
    (subst MakesValid seen c.requires.valid) in
    subst (λ (shape : Shape). IfOk c.list_attribute.result (IsSaid c.args.self.now shape))
    (sym seen)
    (attribute_all_said (prefix_seen it.prefix) (name_seen it.name) (listed list.now)
    c.args.self.now (table_of c.names.result) c.names.ensures means c.list_attribute.result
    c.list_attribute.ensures.says)
