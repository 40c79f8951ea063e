use Rattle.std.proofs.{Common.[], Common.◌∷◌, lemmas.Result.err_from_is_err_and}
use Rattle.io_edges.proofs.Putting.{Puts-cut, Puts-then}
use Rattle.line_notation.proofs.puts.put_words.Goals as goal

pub returns-in_err-put_bytes : goal.returns-in_err-put_bytes
returns-in_err-put_bytes g c =
    let p = err_from_is_err_and c.from_residual.result c.from_residual.ensures.1 in
    rw (p.1, p.2)
    (Puts-cut (10 ∷ [])
    (Puts-cut _ (rw c.as_bytes.ensures.value at c.in_err-put_bytes.ensures)))

pub returns-in_err-put_spaced_words : goal.returns-in_err-put_spaced_words
returns-in_err-put_spaced_words g c =
    let p = err_from_is_err_and c.from_residual-in_err-put_spaced_words.result
    c.from_residual-in_err-put_spaced_words.ensures.1 in
    rw (p.1, p.2)
    (Puts-cut (10 ∷ [])
    (Puts-then _ (rw c.as_bytes.ensures.value at c.in_ok-put_bytes.ensures)
    c.in_err-put_spaced_words.ensures))

pub returns : goal.returns
returns g c =
    Puts-then _ (Puts-then _ (rw c.as_bytes.ensures.value at c.in_ok-put_bytes.ensures)
    c.in_ok-put_spaced_words.ensures) c.put_bytes-2.ensures
