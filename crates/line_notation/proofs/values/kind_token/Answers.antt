use Rattle.std.proofs.{Common.ap, lemmas.Result.err_from_is_err_and}
use Rattle.line_notation.{specs.Parts.as_token, proofs.ValuesFacts.stops-token}
use Rattle.line_notation.proofs.values.kind_token.Goals as goal

pub returns-in_err-scalar : goal.returns-in_err-scalar
returns-in_err-scalar c =
    let p = err_from_is_err_and c.from_residual.result c.from_residual.ensures.1 in
    rw (p.1, p.2) (stops-token c.in_err-scalar.field-0.0 _ c.in_err-scalar.ensures)

pub returns : goal.returns
returns c = ap as_token c.in_ok-scalar.ensures
