use Rattle.std.proofs.lemmas.Result.{err_from_is_err_and}
use Rattle.io_edges.proofs.Putting.{Puts-cut, Puts-then}
use Rattle.relay.proofs.lines.put_backward.Goals as goal

pub returns-in_err-put_middle : goal.returns-in_err-put_middle
returns-in_err-put_middle g c =
    let r = err_from_is_err_and c.from_residual.result c.from_residual.ensures.1 in
    rw (r.1, r.2) (Puts-cut _ c.in_err-put_middle.ensures)

pub returns-in_err-put_word : goal.returns-in_err-put_word
returns-in_err-put_word g c =
    let f = c.from_residual-in_err-put_word in
    let r = err_from_is_err_and f.result f.ensures.1 in
    rw (r.1, r.2) (Puts-then _ c.in_ok-put_middle.ensures
    (Puts-cut _ c.in_err-put_word.ensures))

pub returns : goal.returns
returns g c = Puts-then _ c.in_ok-put_middle.ensures
    (Puts-then _ c.in_ok-put_word.ensures c.put_plain.ensures)
