use Rattle.std.proofs.{Common.arith, lemmas.Grind.common_steps}
use Rattle.nbfx_records.specs.Chosen.{decimal_body}
use Rattle.nbfx_records.proofs.PutFacts.{put_first, puts_as}
use Rattle.nbfx_records.proofs.put_values.put_known.Goals as goal

pub returns-in_err-put_kind-in-Decimal : goal.returns-in_err-put_kind-in-Decimal
returns-in_err-put_kind-in-Decimal c =
    puts_as (put_first (decimal_body c.in-Decimal.decimal) c.from_residual.ensures.0
    c.in_err-put_kind-in-Decimal.ensures) (grind (arith, common_steps))
