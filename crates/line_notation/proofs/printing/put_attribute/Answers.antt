use Rattle.std.proofs.{Common.[], Common.◌∷◌, lemmas.Result.err_from_is_err_and}
use Rattle.io_edges.proofs.Putting.{Puts-cut, Puts-then}
use Rattle.line_notation.proofs.PrintFacts.{attribute_line}
use Rattle.line_notation.proofs.printing.put_attribute.Goals as goal

pub returns-in_err-put_names : goal.returns-in_err-put_names
returns-in_err-put_names g c =
    let p = err_from_is_err_and c.from_residual.result c.from_residual.ensures.1 in
    rw (p.1, p.2, attribute_line c.args.prefix.now c.args.local.now c.args.value.now)
    (Puts-cut (10 ∷ []) (Puts-cut _ c.in_err-put_names.ensures))

pub returns-in_err-put_value : goal.returns-in_err-put_value
returns-in_err-put_value g c =
    let p = err_from_is_err_and c.from_residual-in_err-put_value.result
    c.from_residual-in_err-put_value.ensures.1 in
    rw (p.1, p.2, attribute_line c.args.prefix.now c.args.local.now c.args.value.now)
    (Puts-cut (10 ∷ []) (Puts-then _ c.in_ok-put_names.ensures c.in_err-put_value.ensures))

pub returns : goal.returns
returns g c =
    rw (attribute_line c.args.prefix.now c.args.local.now c.args.value.now)
    (Puts-then _ (Puts-then _ c.in_ok-put_names.ensures c.in_ok-put_value.ensures)
    c.put_bytes.ensures)
