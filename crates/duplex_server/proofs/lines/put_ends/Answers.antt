use Rattle.std.proofs.lemmas.Result.{err_from_is_err_and}
use Rattle.io_edges.proofs.Putting.{Puts-then, Puts-cut}
use Rattle.duplex_server.proofs.lines.put_ends.Goals as goal

pub returns-in_err-put_inbound : goal.returns-in_err-put_inbound
returns-in_err-put_inbound g c =
    let r = err_from_is_err_and c.from_residual.result c.from_residual.ensures.1 in
    rw (r.1, r.2) (Puts-cut _ c.in_err-put_inbound.ensures)

pub returns : goal.returns
returns g c = Puts-then _ c.in_ok-put_inbound.ensures
    (rw c.outbound_word.ensures at c.put_joined.ensures)
