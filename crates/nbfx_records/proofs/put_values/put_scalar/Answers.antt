use Rattle.std.proofs.{Common.arith, lemmas.Grind.common_steps}
use Rattle.multibyte_ints.specs.Integer.{shortest}
use Rattle.nbfx_records.proofs.PutFacts.{put_first, puts_as}
use Rattle.nbfx_records.proofs.put_values.put_scalar.Goals as goal

pub returns-in_err-put_kind-in-Named : goal.returns-in_err-put_kind-in-Named
returns-in_err-put_kind-in-Named c =
    puts_as (put_first (shortest c.in-Named.id) c.from_residual.ensures.0
    c.in_err-put_kind-in-Named.ensures) (grind (arith, common_steps))

pub returns-in_err-put_text-in-Qualified : goal.returns-in_err-put_text-in-Qualified
returns-in_err-put_text-in-Qualified c =
    puts_as (put_first (shortest c.in-Qualified.id)
    c.from_residual-in_err-put_text-in-Qualified.ensures.0 c.in_err-put_text-in-Qualified.ensures)
    (grind (arith, common_steps))
