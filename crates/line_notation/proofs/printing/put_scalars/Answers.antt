use Rattle.std.proofs.lemmas.Result.{err_from_is_err_and}
use Rattle.line_notation.specs.{Scalars.scalar_words, Words.behind_spaces}
use Rattle.line_notation.proofs.PrintFacts.{behind_spaces-scalars}
use Rattle.line_notation.proofs.PutsFacts.{HavePut-item, HavePut-item_cut, HavePut-list}
use Rattle.line_notation.proofs.printing.put_scalars.Goals as goal

pub returns-in_err-put_scalar : goal.returns-in_err-put_scalar
returns-in_err-put_scalar g c =
    let p = err_from_is_err_and c.from_residual.result c.from_residual.ensures.1 in
    rw (p.1, p.2, behind_spaces-scalars c.args.scalars.now)
    (HavePut-item_cut (λ s. behind_spaces (scalar_words s)) c.loop-scalar.scalar-index
    c.scalar-item.result c.loop-scalar-test.true c.scalar-item.is
    c.loop-scalar.invariant c.in_err-put_scalar.ensures)

pub loop-scalar-preserved : goal.loop-scalar-preserved
loop-scalar-preserved g c =
    HavePut-item (λ s. behind_spaces (scalar_words s)) c.loop-scalar.scalar-index
    c.scalar-item.result c.loop-scalar-test.true c.scalar-item.is
    c.loop-scalar.invariant c.in_ok-put_scalar.ensures

pub returns : goal.returns
returns g c =
    rw (behind_spaces-scalars c.args.scalars.now)
    (HavePut-list (λ s. behind_spaces (scalar_words s)) c.loop-scalar.scalar-index
    c.loop-scalar-test.false c.loop-scalar.invariant)
