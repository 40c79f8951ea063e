use Rattle.std.proofs.Common.{Option, subst}
use Rattle.nbfx_values.specs.declared.content.ArrayKind.{ArrayKind}
use Rattle.nbfx_records.specs.{Cursor.Tells, Shapes.cells_of, Views.cells_seen}
use Rattle.nbfx_records.proofs.CursorFacts.{exit, then_stops, then_tells}
use Rattle.nbfx_records.specs.Asked as asked
use Rattle.nbfx_records.proofs.arrays.cells_at.Goals as goal

pub returns-in_err-byte-clause-tells : goal.returns-in_err-byte-clause-tells
returns-in_err-byte-clause-tells c = exit c.from_residual.ensures.1
    (then_stops _ c.in_err-byte.ensures.told)

pub returns-clause-tells : goal.returns-clause-tells
returns-clause-tells c =
    then_tells _ c.in_ok-byte.ensures
    (subst (λ (k : Option ArrayKind). Tells cells_seen (cells_of k) (asked.cells_of k)
    c.args.bytes.now c.in_ok-byte.at c.cells_of.result) c.array_kind.ensures
    c.cells_of.ensures.tells)
