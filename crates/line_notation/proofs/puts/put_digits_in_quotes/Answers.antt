use Rattle.std.proofs.{Common.[], Common.◌∷◌, lemmas.Result.err_from_is_err_and}
use Rattle.io_edges.proofs.Putting.{Puts-cut, Puts-then}
use Rattle.line_notation.proofs.puts.put_digits_in_quotes.Goals as goal

pub returns-in_err-put_bytes : goal.returns-in_err-put_bytes
returns-in_err-put_bytes g c =
    let p = err_from_is_err_and c.from_residual.result c.from_residual.ensures.1 in
    rw (p.1, p.2) (Puts-cut _ c.in_err-put_bytes.ensures)

pub returns-in_err-put_digits : goal.returns-in_err-put_digits
returns-in_err-put_digits g c =
    let p = err_from_is_err_and c.from_residual-in_err-put_digits.result
    c.from_residual-in_err-put_digits.ensures.1 in
    rw (p.1, p.2)
    (Puts-cut (34 ∷ []) (Puts-then _ c.in_ok-put_bytes.ensures c.in_err-put_digits.ensures))

pub returns : goal.returns
returns g c = Puts-then _ c.in_ok-put_bytes.ensures
    (Puts-then _ c.in_ok-put_digits.ensures c.put_bytes-2.ensures)
