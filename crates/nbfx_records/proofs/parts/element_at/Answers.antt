use Rattle.std.proofs.Common.{refl}
use Rattle.nbfx_records.proofs.CursorFacts.{then_tells, then_stops, then_stops_behind, seen_tells}
use Rattle.nbfx_records.proofs.CursorFacts.{seen_stops, exit}
use Rattle.nbfx_records.proofs.parts.element_at.Goals as goal

pub returns-in_err-prefix : goal.returns-in_err-prefix
returns-in_err-prefix c = exit c.from_residual.ensures.1 (then_stops _ c.in_err-prefix.ensures.told)

pub returns-in_err-name : goal.returns-in_err-name
returns-in_err-name c = exit c.from_residual-in_err-name.ensures.1
    (then_stops_behind _ c.in_ok-prefix.ensures (seen_stops _ c.in_err-name.ensures.told))

pub returns : goal.returns
returns c = then_tells _ c.in_ok-prefix.ensures (seen_tells _ c.in_ok-name.ensures refl)
