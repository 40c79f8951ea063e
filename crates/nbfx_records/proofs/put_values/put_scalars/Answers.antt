use Rattle.std.proofs.Common.{false, ap}
use Rattle.nbfx_records.specs.{Chosen.scalar_bytes, Valid.fits_raw, Valid.is_valid_raw}
use Rattle.nbfx_records.proofs.PutFacts.{passes_at, put_stopped, puts_as}
use Rattle.nbfx_records.proofs.put_values.put_scalars.Goals as goal

pub put_scalar-requires-clause-valid : goal.put_scalar-requires-clause-valid
put_scalar-requires-clause-valid c =
    rw c.choice_of.ensures (passes_at is_valid_raw c.args.values.now c.loop-value.value-index
    c.value-item.result c.requires.valid c.loop-value-test.true c.value-item.is)

pub put_scalar-requires-clause-fits : goal.put_scalar-requires-clause-fits
put_scalar-requires-clause-fits c =
    rw c.choice_of.ensures (passes_at fits_raw c.args.values.now c.loop-value.value-index
    c.value-item.result c.requires.fits c.loop-value-test.true c.value-item.is)

pub returns-in_err-put_scalar : goal.returns-in_err-put_scalar
returns-in_err-put_scalar c =
    put_stopped (scalar_bytes false) c.args.values.now c.loop-value.value-index c.value-item.result
    c.loop-value-test.true c.value-item.is c.from_residual.ensures.0 c.loop-value.invariant
    (puts_as c.in_err-put_scalar.ensures (ap (scalar_bytes false) c.choice_of.ensures))
