use Rattle.std.proofs.{Common.◌∙◌, Common.append-nil, lemmas.Result.err_from_is_err_and}
use Rattle.io_edges.proofs.Putting.{Puts-cut, Puts-then}
use Rattle.line_notation.specs.Puts.{spaced_word}
use Rattle.line_notation.proofs.printing.put_one.Goals as goal

pub returns-in_err-put_bytes : goal.returns-in_err-put_bytes
returns-in_err-put_bytes g c =
    let p = err_from_is_err_and c.from_residual.result c.from_residual.ensures.1 in
    rw (p.1, p.2, append-nil (spaced_word c.args.word)) (Puts-cut _ c.in_err-put_bytes.ensures)

pub returns-in_err-put_bytes-2 : goal.returns-in_err-put_bytes-2
returns-in_err-put_bytes-2 g c =
    let p = err_from_is_err_and c.from_residual-in_err-put_bytes-2.result
    c.from_residual-in_err-put_bytes-2.ensures.1 in
    rw (p.1, p.2, append-nil (spaced_word c.args.word))
    (Puts-then _ c.in_ok-put_bytes.ensures
    (Puts-cut _ (rw (c.as_bytes.ensures.value ∙ c.word.ensures) at
    c.in_err-put_bytes-2.ensures)))

pub returns : goal.returns
returns g c =
    rw (append-nil (spaced_word c.args.word))
    (Puts-then _ c.in_ok-put_bytes.ensures
    (Puts-then _ (rw (c.as_bytes.ensures.value ∙ c.word.ensures) at c.in_ok-put_bytes-2.ensures)
    c.put_spaced_word.ensures))
