use Rattle.std.proofs.Common.{refl}
use Rattle.nbfx_records.proofs.CursorFacts.{then_tells, then_stops, then_stops_behind, seen_tells}
use Rattle.nbfx_records.proofs.CursorFacts.{seen_stops, exit}
use Rattle.nbfx_records.proofs.arrays.counted_cells.Goals as goal

pub returns-in_err-count-clause-tells : goal.returns-in_err-count-clause-tells
returns-in_err-count-clause-tells c = exit c.from_residual.ensures.1
    (then_stops _ c.in_err-count.ensures.tells.told)

pub returns-in_err-values-clause-tells : goal.returns-in_err-values-clause-tells
returns-in_err-values-clause-tells c = exit c.from_residual-in_err-values.ensures.1
    (then_stops_behind _ c.in_ok-count.ensures.tells
    (seen_stops _ c.in_err-values.ensures.tells.told))

pub returns-clause-tells : goal.returns-clause-tells
returns-clause-tells c = then_tells _ c.in_ok-count.ensures.tells
    (seen_tells _ c.in_ok-values.ensures.tells refl)
