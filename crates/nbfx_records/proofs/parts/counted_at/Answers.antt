use Rattle.nbfx_records.proofs.CursorFacts.{then_tells, then_stops, exit}
use Rattle.nbfx_records.proofs.parts.counted_at.Goals as goal

pub returns-in_err-count : goal.returns-in_err-count
returns-in_err-count c = exit c.from_residual.ensures.1
    (then_stops _ c.in_err-count.ensures.tells.told)

pub returns : goal.returns
returns c = then_tells _ c.in_ok-count.ensures.tells c.bytes_at.ensures.tells
