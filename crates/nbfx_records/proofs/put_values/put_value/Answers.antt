use Rattle.std.proofs.Common.{false, ◌++◌, flat_map, arith}
use Rattle.std.proofs.lemmas.Grind.{common_steps}
use Rattle.nbfx_records.specs.Chosen.{list_end, scalar_bytes}
use Rattle.nbfx_records.proofs.PutFacts.{put_first, put_second, puts_as}
use Rattle.nbfx_records.proofs.put_values.put_value.Goals as goal

pub returns-in_err-put_list_start-in-List : goal.returns-in_err-put_list_start-in-List
returns-in_err-put_list_start-in-List c =
    puts_as (put_first (flat_map (scalar_bytes false) c.in-List.values ++ list_end c.args.ends)
    c.from_residual.ensures.0 c.in_err-put_list_start-in-List.ensures) (grind (arith, common_steps))

pub returns-in_ok-put_scalars-in-List : goal.returns-in_ok-put_scalars-in-List
returns-in_ok-put_scalars-in-List c =
    puts_as (put_second c.in_ok-put_list_start-in-List.ensures
    (put_second c.in_ok-put_scalars-in-List.ensures c.put_list_end.ensures))
    (grind (arith, common_steps))
