use Rattle.std.proofs.{Common.[], Common.◌∷◌, Common.◌∙◌, lemmas.Result.err_from_is_err_and}
use Rattle.io_edges.proofs.Putting.{Puts-cut, Puts-then}
use Rattle.line_notation.proofs.PrintFacts.{value_words-scalars}
use Rattle.line_notation.proofs.printing.put_array_values.Goals as goal

pub returns-in_err-put_bytes : goal.returns-in_err-put_bytes
returns-in_err-put_bytes g c =
    let p = err_from_is_err_and c.from_residual.result c.from_residual.ensures.1 in
    rw (p.1, p.2)
    (Puts-cut (10 ∷ [])
    (Puts-cut _ (rw (c.as_bytes.ensures.value ∙ c.word.ensures) at c.in_err-put_bytes.ensures)))

pub returns-in_err-put_scalars : goal.returns-in_err-put_scalars
returns-in_err-put_scalars g c =
    let p = err_from_is_err_and c.from_residual-in_err-put_scalars.result
    c.from_residual-in_err-put_scalars.ensures.1 in
    rw (p.1, p.2, value_words-scalars c.args.scalars.now)
    (Puts-cut (10 ∷ [])
    (Puts-then _ (rw (c.as_bytes.ensures.value ∙ c.word.ensures) at c.in_ok-put_bytes.ensures)
    c.in_err-put_scalars.ensures))

pub returns : goal.returns
returns g c =
    rw (value_words-scalars c.args.scalars.now)
    (Puts-then _
    (Puts-then _ (rw (c.as_bytes.ensures.value ∙ c.word.ensures) at c.in_ok-put_bytes.ensures)
    c.in_ok-put_scalars.ensures) c.put_bytes-2.ensures)
