use Rattle.std.proofs.Common.{◌<◌, ◌^◌, arith, length}
use Rattle.std.proofs.lemmas.Result.{err_from_is_err_and}
use Rattle.line_notation.proofs.PrintFacts.{list_words}
use Rattle.io_edges.proofs.Putting.{Puts-then, Puts-cut}
use Rattle.line_notation.proofs.printing.put_list.Goals as goal

pub returns-in_err-put_spaced_words : goal.returns-in_err-put_spaced_words
returns-in_err-put_spaced_words g c =
    let small : length c.args.values.now < 2 ^ 64 = omega (arith, c.len-count.type_inv) in
    let p = err_from_is_err_and c.from_residual.result c.from_residual.ensures.1 in
    rw (p.1, p.2, list_words c.args.values.now small)
    (Puts-cut _ (rw c.len-count.ensures at c.in_err-put_spaced_words.ensures))

pub returns : goal.returns
returns g c =
    let small : length c.args.values.now < 2 ^ 64 = omega (arith, c.len-count.type_inv) in
    rw (list_words c.args.values.now small)
    (Puts-then _ (rw c.len-count.ensures at c.in_ok-put_spaced_words.ensures)
    (rw c.as_slice.ensures at c.put_scalars.ensures))
