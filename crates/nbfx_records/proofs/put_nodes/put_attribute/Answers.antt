use Rattle.std.proofs.{Common.false, Common.arith, lemmas.Grind.common_steps}
use Rattle.nbfx_records.specs.Chosen.{value_bytes}
use Rattle.nbfx_records.proofs.PutFacts.{put_first, put_second, puts_as}
use Rattle.nbfx_records.proofs.put_nodes.put_attribute.Goals as goal

pub returns-in_err-put_attribute_start : goal.returns-in_err-put_attribute_start
returns-in_err-put_attribute_start c =
    puts_as (put_first (value_bytes false c.args.value.now) c.from_residual.ensures.0
    c.in_err-put_attribute_start.ensures) (grind (arith, common_steps))

pub returns : goal.returns
returns c = puts_as (put_second c.in_ok-put_attribute_start.ensures c.put_value.ensures)
    (grind (arith, common_steps))
