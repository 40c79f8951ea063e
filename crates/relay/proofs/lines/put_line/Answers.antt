use Rattle.{std.proofs.lemmas.Result.err_from_is_err_and, relay.proofs.Wording.line_is}
use Rattle.io_edges.proofs.Putting.{Puts-cut, Puts-then}
use Rattle.stream_loop.proofs.Writing.{after_flush}
use Rattle.relay.proofs.lines.put_line.Goals as goal

pub returns-in_err-put_forward-clause-puts : goal.returns-in_err-put_forward-clause-puts
returns-in_err-put_forward-clause-puts g c =
    let r = err_from_is_err_and c.from_residual.result c.from_residual.ensures.1 in
    rw (r.1, r.2, line_is c.args.number c.args.outcome)
    (Puts-cut _ c.in_err-put_forward.ensures)

pub returns-in_err-put_backward-clause-puts : goal.returns-in_err-put_backward-clause-puts
returns-in_err-put_backward-clause-puts g c =
    let f = c.from_residual-in_err-put_backward in
    let r = err_from_is_err_and f.result f.ensures.1 in
    rw (r.1, r.2, line_is c.args.number c.args.outcome)
    (Puts-then _ c.in_ok-put_forward.ensures c.in_err-put_backward.ensures)

pub returns-clause-puts : goal.returns-clause-puts
returns-clause-puts g c =
    rw (line_is c.args.number c.args.outcome)
    (after_flush c.flush.result (Puts-then _ c.in_ok-put_forward.ensures
    c.in_ok-put_backward.ensures) c.flush.ensures.puts)
