use Rattle.{std.proofs.lemmas.Result.err_from_is_err_and, session_pool.proofs.PutLines.line_is}
use Rattle.io_edges.proofs.Putting.{Puts-cut, Puts-then}
use Rattle.session_pool.proofs.lines.put_line.Goals as goal

pub returns-in_err-put_counts : goal.returns-in_err-put_counts
returns-in_err-put_counts g c =
    let r = err_from_is_err_and c.from_residual.result c.from_residual.ensures.1 in
    rw (r.1, r.2, line_is c.args.number c.args.turns.now) (Puts-cut _ c.in_err-put_counts.ensures)

pub returns-in_err-put_end : goal.returns-in_err-put_end
returns-in_err-put_end g c =
    let f = c.from_residual-in_err-put_end in
    let r = err_from_is_err_and f.result f.ensures.1 in
    rw (r.1, r.2, line_is c.args.number c.args.turns.now)
    (Puts-then _ c.in_ok-put_counts.ensures (Puts-cut _ c.in_err-put_end.ensures))

pub returns : goal.returns
returns g c = rw (line_is c.args.number c.args.turns.now)
    (Puts-then _ c.in_ok-put_counts.ensures
    (Puts-then _ c.in_ok-put_end.ensures c.put_plain.ensures))
