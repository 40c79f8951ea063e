use Rattle.nbfx_records.specs.{Shapes.turn_of, Views.may_close}
use Rattle.nbfx_records.proofs.{CursorFacts.exit, CursorFacts.then_stops, PartFacts.typed_tells}
use Rattle.nbfx_records.specs.Asked as asked
use Rattle.nbfx_records.proofs.lists.list_turn_at.Goals as goal

pub returns-in_err-byte : goal.returns-in_err-byte
returns-in_err-byte c = exit c.from_residual.ensures.1 (then_stops _ c.in_err-byte.ensures.told)

pub returns : goal.returns
returns c = typed_tells (turn_of (may_close c.args.holder))
    (asked.turn_of (may_close c.args.holder)) c.in_ok-byte.ensures c.record_kind.ensures
    c.turn_of.ensures
