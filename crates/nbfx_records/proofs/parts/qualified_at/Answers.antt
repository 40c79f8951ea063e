use Rattle.std.proofs.Common.{refl}
use Rattle.nbfx_records.proofs.CursorFacts.{then_tells, then_stops, then_stops_behind, seen_tells}
use Rattle.nbfx_records.proofs.CursorFacts.{seen_stops, exit}
use Rattle.nbfx_records.proofs.parts.qualified_at.Goals as goal

pub returns-in_err-letter : goal.returns-in_err-letter
returns-in_err-letter c = exit c.from_residual.ensures.1 (then_stops _ c.in_err-letter.ensures.told)

pub returns-in_err-id : goal.returns-in_err-id
returns-in_err-id c = exit c.from_residual-in_err-id.ensures.1
    (then_stops_behind _ c.in_ok-letter.ensures (seen_stops _ c.in_err-id.ensures.tells.told))

pub returns : goal.returns
returns c = then_tells _ c.in_ok-letter.ensures (seen_tells _ c.in_ok-id.ensures.tells refl)
