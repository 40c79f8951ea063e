use Rattle.{std.proofs.Common.refl, nbfx_records.specs.Shapes.array_at}
use Rattle.nbfx_records.proofs.CursorFacts.{exit, seen_stops, seen_tells, then_stops}
use Rattle.nbfx_records.proofs.CursorFacts.{then_stops_behind, then_tells}
use Rattle.nbfx_records.proofs.arrays.array_at.Goals as goal

pub returns-in_err-element-clause-tells : goal.returns-in_err-element-clause-tells
unfolding array_at
returns-in_err-element-clause-tells c = exit c.from_residual.ensures.1
    (then_stops _ c.in_err-element.ensures.told)

pub returns-in_err-attributes-clause-tells : goal.returns-in_err-attributes-clause-tells
unfolding array_at
returns-in_err-attributes-clause-tells c =
    exit c.from_residual-in_err-attributes.ensures.1
    (then_stops_behind _ c.in_ok-element.ensures
    (then_stops _ c.in_err-attributes.ensures.tells.told))

pub returns-in_err-cells-clause-tells : goal.returns-in_err-cells-clause-tells
unfolding array_at
returns-in_err-cells-clause-tells c =
    exit c.from_residual-in_err-cells.ensures.1
    (then_stops_behind _ c.in_ok-element.ensures
    (then_stops_behind _ c.in_ok-attributes.ensures.tells
    (seen_stops _ c.in_err-cells.ensures.tells.told)))

pub returns-clause-tells : goal.returns-clause-tells
unfolding array_at
returns-clause-tells c = then_tells _ c.in_ok-element.ensures
    (then_tells _ c.in_ok-attributes.ensures.tells (seen_tells _ c.in_ok-cells.ensures.tells refl))
