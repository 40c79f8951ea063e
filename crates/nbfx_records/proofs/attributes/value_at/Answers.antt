use Rattle.nbfx_records.specs.{Resuming.KeepsTextOf, Shapes.value_of_kind}
use Rattle.nbfx_records.proofs.CursorFacts.{exit, then_stops}
use Rattle.nbfx_records.proofs.{KeptFacts.kept_whole, PartFacts.typed_tells}
use Rattle.nbfx_records.specs.Asked as asked
use Rattle.nbfx_records.proofs.attributes.value_at.Goals as goal

pub returns-in_err-byte-clause-tells : goal.returns-in_err-byte-clause-tells
returns-in_err-byte-clause-tells c = exit c.from_residual.ensures.1
    (then_stops _ c.in_err-byte.ensures.told)

pub returns-clause-tells : goal.returns-clause-tells
returns-clause-tells c = typed_tells value_of_kind asked.value_of_kind c.in_ok-byte.ensures
    c.record_kind.ensures c.value_of_kind.ensures.tells

pub returns-clause-kept : goal.returns-clause-kept
returns-clause-kept c =
    kept_whole (λ kind at. KeepsTextOf kind at c.value_of_kind.new.resume c.args.bytes.now)
    c.args.bytes.now c.args.at c.in_ok-byte.byte c.in_ok-byte.at c.record_kind.result
    c.in_ok-byte.ensures.told c.record_kind.ensures c.value_of_kind.result
    c.value_of_kind.ensures.kept
