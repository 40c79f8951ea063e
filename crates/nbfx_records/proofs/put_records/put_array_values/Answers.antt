use Rattle.std.proofs.Common.{◌++◌, length, flat_map, arith}
use Rattle.{std.proofs.lemmas.Grind.common_steps, multibyte_ints.specs.Integer.shortest}
use Rattle.nbfx_records.specs.Chosen.{cell_bytes, counted_cells}
use Rattle.nbfx_records.proofs.PutFacts.{put_first, put_second, puts_as}
use Rattle.nbfx_records.proofs.put_records.put_array_values.Goals as goal

pub returns-in_err-put_end_element : goal.returns-in_err-put_end_element
returns-in_err-put_end_element c =
    put_first (counted_cells c.args.kind c.args.values.now) c.from_residual.ensures.0
    c.in_err-put_end_element.ensures

pub returns-in_err-put_kind : goal.returns-in_err-put_kind
returns-in_err-put_kind c = puts_as
    (put_second c.in_ok-put_end_element.ensures
    (put_first (shortest (length c.args.values.now)
    ++ flat_map (cell_bytes c.args.kind) c.args.values.now)
    c.from_residual-in_err-put_kind.ensures.0 c.in_err-put_kind.ensures))
    (grind (arith, common_steps))

pub returns : goal.returns
returns c = puts_as (put_second c.in_ok-put_end_element.ensures
    (put_second c.in_ok-put_kind.ensures
    (put_second c.in_ok-put_integer.ensures c.put_cells.ensures))) (grind (arith, common_steps))
