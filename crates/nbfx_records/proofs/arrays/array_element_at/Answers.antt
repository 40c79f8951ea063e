use Rattle.nbfx_records.specs.Shapes.{element_of}
use Rattle.nbfx_records.proofs.{CursorFacts.exit, CursorFacts.then_stops, PartFacts.typed_tells}
use Rattle.nbfx_records.specs.Asked as asked
use Rattle.nbfx_records.proofs.arrays.array_element_at.Goals as goal

pub returns-in_err-byte : goal.returns-in_err-byte
returns-in_err-byte c = exit c.from_residual.ensures.1 (then_stops _ c.in_err-byte.ensures.told)

pub returns : goal.returns
returns c = typed_tells element_of asked.element_of c.in_ok-byte.ensures c.record_kind.ensures
    c.element_of.ensures
