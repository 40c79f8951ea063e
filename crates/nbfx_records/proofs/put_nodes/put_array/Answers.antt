use Rattle.std.proofs.{Common.◌++◌, Common.flat_map, Common.arith, lemmas.Grind.common_steps}
use Rattle.nbfx_records.specs.Chosen.{array_values_bytes, element_bytes, part_bytes}
use Rattle.nbfx_records.proofs.PutFacts.{put_first, put_second, puts_as}
use Rattle.nbfx_records.proofs.put_nodes.put_array.Goals as goal

pub returns-in_err-put_array_start : goal.returns-in_err-put_array_start
returns-in_err-put_array_start c =
    put_first (element_bytes c.args.array.now.prefix c.args.array.now.name
    ++ (flat_map part_bytes c.args.array.now.attrs
    ++ array_values_bytes c.args.array.now.kind c.args.array.now.values)) c.from_residual.ensures.0
    c.in_err-put_array_start.ensures

pub returns-in_err-put_element : goal.returns-in_err-put_element
returns-in_err-put_element c = puts_as
    (put_second c.in_ok-put_array_start.ensures
    (put_first (flat_map part_bytes c.args.array.now.attrs
    ++ array_values_bytes c.args.array.now.kind c.args.array.now.values)
    c.from_residual-in_err-put_element.ensures.0 c.in_err-put_element.ensures))
    (grind (arith, common_steps))

pub returns-in_err-put_parts : goal.returns-in_err-put_parts
returns-in_err-put_parts c = puts_as
    (put_second c.in_ok-put_array_start.ensures
    (put_second c.in_ok-put_element.ensures
    (put_first (array_values_bytes c.args.array.now.kind c.args.array.now.values)
    c.from_residual-in_err-put_parts.ensures.0 c.in_err-put_parts.ensures)))
    (grind (arith, common_steps))

pub returns : goal.returns
returns c = puts_as (put_second c.in_ok-put_array_start.ensures
    (put_second c.in_ok-put_element.ensures
    (put_second c.in_ok-put_parts.ensures c.put_array_values.ensures)))
    (grind (arith, common_steps))
