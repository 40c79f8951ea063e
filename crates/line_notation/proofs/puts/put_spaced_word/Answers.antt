use Rattle.std.proofs.lemmas.Result.{err_from_is_err_and}
use Rattle.io_edges.proofs.Putting.{Puts-then, Puts-cut}
use Rattle.line_notation.proofs.puts.put_spaced_word.Goals as goal

pub returns-in_err-put_bytes : goal.returns-in_err-put_bytes
returns-in_err-put_bytes g c =
    let p = err_from_is_err_and c.from_residual.result c.from_residual.ensures.1 in
    rw (p.1, p.2) (Puts-cut _ c.in_err-put_bytes.ensures)

pub returns : goal.returns
returns g c = Puts-then _ c.in_ok-put_bytes.ensures c.put_word.ensures
