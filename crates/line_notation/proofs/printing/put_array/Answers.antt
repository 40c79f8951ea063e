use Rattle.std.proofs.lemmas.Result.{err_from_is_err_and}
use Rattle.io_edges.proofs.Putting.{Puts-cut, Puts-then}
use Rattle.line_notation.proofs.{PrintFacts.array_text, ValidFacts.array_parts}
use Rattle.line_notation.proofs.printing.put_array.Goals as goal

pub returns-in_err-put_array_start : goal.returns-in_err-put_array_start
returns-in_err-put_array_start g c =
    let p = err_from_is_err_and c.from_residual.result c.from_residual.ensures.1 in
    rw (p.1, p.2, array_text c.args.array.now)
    (Puts-cut _ (Puts-cut _ c.in_err-put_array_start.ensures))

pub returns-in_err-put_array_attributes : goal.returns-in_err-put_array_attributes
returns-in_err-put_array_attributes g c =
    let p = err_from_is_err_and c.from_residual-in_err-put_array_attributes.result
    c.from_residual-in_err-put_array_attributes.ensures.1 in
    rw (p.1, p.2, array_text c.args.array.now)
    (Puts-cut _
    (Puts-then _ c.in_ok-put_array_start.ensures
    (rw c.as_slice.ensures at c.in_err-put_array_attributes.ensures)))

pub put_array_values-requires : goal.put_array_values-requires
put_array_values-requires g c = rw c.as_slice-2.ensures
    (array_parts c.args.array.now c.requires).valid

pub returns : goal.returns
returns g c =
    rw (array_text c.args.array.now)
    (Puts-then _
    (Puts-then _ c.in_ok-put_array_start.ensures
    (rw c.as_slice.ensures at c.in_ok-put_array_attributes.ensures))
    (rw c.as_slice-2.ensures at c.put_array_values.ensures))
