use Rattle.std.proofs.{Common.[], Common.◌∷◌, lemmas.Result.err_from_is_err_and}
use Rattle.io_edges.proofs.Putting.{Puts-cut, Puts-then}
use Rattle.line_notation.proofs.printing.put_named.Goals as goal

pub returns-in_err-put_names : goal.returns-in_err-put_names
returns-in_err-put_names g c =
    let p = err_from_is_err_and c.from_residual.result c.from_residual.ensures.1 in
    rw (p.1, p.2) (Puts-cut (10 ∷ []) c.in_err-put_names.ensures)

pub returns : goal.returns
returns g c = Puts-then _ c.in_ok-put_names.ensures c.put_bytes.ensures
