use Rattle.std.proofs.{Common.decimal, Common.append-nil, lemmas.Result.err_from_is_err_and}
use Rattle.io_edges.proofs.Putting.{Puts-cut, Puts-then}
use Rattle.session_report.proofs.lines.put_strings.Goals as goal

pub returns-in_err-put_labelled : goal.returns-in_err-put_labelled
returns-in_err-put_labelled g c =
    let r = err_from_is_err_and c.from_residual.result c.from_residual.ensures.1 in
    rw (r.1, r.2) (Puts-cut _ (rw c.from.ensures at c.in_err-put_labelled.ensures))

pub returns : goal.returns
returns g c =
    rw (append-nil (decimal c.args.received.now.used))
    (Puts-then _ (rw c.from.ensures at c.in_ok-put_labelled.ensures)
    (rw c.from-2.ensures at c.put_labelled-2.ensures))
