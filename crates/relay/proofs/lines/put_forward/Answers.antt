use Rattle.std.proofs.lemmas.Result.{err_from_is_err_and}
use Rattle.io_edges.proofs.Putting.{Puts-cut, Puts-then}
use Rattle.relay.proofs.lines.put_forward.Goals as goal

pub returns-in_err-put_start : goal.returns-in_err-put_start
returns-in_err-put_start g c =
    let r = err_from_is_err_and c.from_residual.result c.from_residual.ensures.1 in
    rw (r.1, r.2) (Puts-cut _ c.in_err-put_start.ensures)

pub returns : goal.returns
returns g c = Puts-then _ c.in_ok-put_start.ensures c.put_word.ensures
