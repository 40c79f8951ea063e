use Rattle.nbfx_records.specs.{Resuming.KeepsAny, Shapes.placed, Shapes.shape_at}
use Rattle.nbfx_records.proofs.CursorFacts.{exit, then_stops}
use Rattle.nbfx_records.proofs.{KeptFacts.kept_whole, PartFacts.typed_tells}
use Rattle.nbfx_records.specs.Asked as asked
use Rattle.nbfx_records.proofs.records.shape_at.Goals as goal

pub returns-in_err-byte-clause-tells : goal.returns-in_err-byte-clause-tells
unfolding shape_at
returns-in_err-byte-clause-tells c = exit c.from_residual.ensures.1
    (then_stops _ c.in_err-byte.ensures.told)

pub returns-clause-tells : goal.returns-clause-tells
unfolding shape_at
returns-clause-tells c = typed_tells (placed c.args.place) (asked.placed c.args.place)
    c.in_ok-byte.ensures c.record_kind.ensures c.placed.ensures.tells

pub returns-clause-kept : goal.returns-clause-kept
returns-clause-kept c =
    kept_whole (λ kind at. KeepsAny kind at c.placed.new.resume c.args.bytes.now) c.args.bytes.now 0
    c.in_ok-byte.byte c.in_ok-byte.at c.record_kind.result c.in_ok-byte.ensures.told
    c.record_kind.ensures c.placed.result c.placed.ensures.kept
