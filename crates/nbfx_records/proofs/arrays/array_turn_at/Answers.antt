use Rattle.nbfx_records.specs.Shapes.{array_part}
use Rattle.nbfx_records.proofs.{CursorFacts.exit, CursorFacts.then_stops, PartFacts.typed_tells}
use Rattle.nbfx_records.specs.Asked as asked
use Rattle.nbfx_records.proofs.arrays.array_turn_at.Goals as goal

pub returns-in_err-byte-clause-tells : goal.returns-in_err-byte-clause-tells
returns-in_err-byte-clause-tells c = exit c.from_residual.ensures.1
    (then_stops _ c.in_err-byte.ensures.told)

pub returns-clause-tells : goal.returns-clause-tells
returns-clause-tells c = typed_tells array_part asked.array_part c.in_ok-byte.ensures
    c.record_kind.ensures c.array_part.ensures.tells
