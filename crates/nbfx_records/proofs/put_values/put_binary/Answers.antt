use Rattle.std.proofs.{Common.arith, lemmas.Grind.common_steps}
use Rattle.nbfx_records.specs.Chosen.{counted_body}
use Rattle.nbfx_records.proofs.PutFacts.{put_first, puts_as}
use Rattle.nbfx_records.proofs.put_values.put_binary.Goals as goal

pub returns-in_err-put_kind : goal.returns-in_err-put_kind
returns-in_err-put_kind c = puts_as
    (put_first (counted_body c.least_form-form.result c.args.content.now) c.from_residual.ensures.0
    c.in_err-put_kind.ensures) (grind (arith, common_steps))
