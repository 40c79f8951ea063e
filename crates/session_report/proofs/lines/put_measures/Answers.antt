use Rattle.std.proofs.Common.{length, decimal, ap, ◌∙◌, append-nil}
use Rattle.std.proofs.lemmas.Result.{err_from_is_err_and}
use Rattle.io_edges.proofs.Putting.{Puts-cut, Puts-then}
use Rattle.session_report.proofs.lines.put_measures.Goals as goal

pub returns-in_err-put_labelled : goal.returns-in_err-put_labelled
returns-in_err-put_labelled g c =
    let r = err_from_is_err_and c.from_residual.result c.from_residual.ensures.1 in
    rw (r.1, r.2)
    (Puts-cut _ (rw (c.len.ensures
    ∙ ap length c.items.ensures.same) at c.in_err-put_labelled.ensures))

pub returns-in_err-put_labelled-2 : goal.returns-in_err-put_labelled-2
returns-in_err-put_labelled-2 g c =
    let r = err_from_is_err_and c.from_residual-in_err-put_labelled-2.result
    c.from_residual-in_err-put_labelled-2.ensures.1 in
    rw (r.1, r.2)
    (Puts-then _ (rw (c.len.ensures
    ∙ ap length c.items.ensures.same) at c.in_ok-put_labelled.ensures)
    (Puts-cut _ (rw c.depth.ensures at c.in_err-put_labelled-2.ensures)))

pub returns : goal.returns
returns g c =
    rw (append-nil (decimal c.args.received.now.content))
    (Puts-then _ (rw (c.len.ensures
    ∙ ap length c.items.ensures.same) at c.in_ok-put_labelled.ensures)
    (Puts-then _
    (rw c.depth.ensures at c.in_ok-put_labelled-2.ensures) c.put_labelled-3.ensures))
