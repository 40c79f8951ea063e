use Rattle.std.proofs.Common.{refl}
use Rattle.nbfx_records.proofs.CursorFacts.{then_tells, then_stops, then_stops_behind, seen_tells}
use Rattle.nbfx_records.proofs.CursorFacts.{seen_stops, exit}
use Rattle.nbfx_records.proofs.attributes.declaration_at.Goals as goal

pub returns-in_err-prefix-clause-tells : goal.returns-in_err-prefix-clause-tells
returns-in_err-prefix-clause-tells c = exit c.from_residual.ensures.1
    (then_stops _ c.in_err-prefix.ensures.told)

pub returns-in_err-uri-clause-tells : goal.returns-in_err-uri-clause-tells
returns-in_err-uri-clause-tells c = exit c.from_residual-in_err-uri.ensures.1
    (then_stops_behind _ c.in_ok-prefix.ensures (seen_stops _ c.in_err-uri.ensures.told))

pub returns-clause-tells : goal.returns-clause-tells
returns-clause-tells c = then_tells _ c.in_ok-prefix.ensures (seen_tells _ c.in_ok-uri.ensures refl)
