use Rattle.{std.proofs.Common.false, nbfx_records.specs.Chosen.scalar_bytes}
use Rattle.nbfx_encoder.specs.Placing.{spell_scalar}
use Rattle.nbfx_encoder.proofs.InLists.{along_first, along_more}
use Rattle.nbfx_encoder.proofs.speller.Speller.put_scalars.Goals as goal

pub loop-value-init : goal.loop-value-init
loop-value-init c = along_first spell_scalar (scalar_bytes false) c.args.self.now c.args.values.now
    c.requires.sound

pub loop-value-preserved : goal.loop-value-preserved
loop-value-preserved c =
    along_more spell_scalar (scalar_bytes false) c.args.self.now c.loop-value.self
    c.put_scalar.new.self c.args.values.now c.loop-value.value-index c.value-item.result
    c.loop-value.invariant c.loop-value-test.true c.value-item.is c.in_ok-put_scalar.ensures.spelled
    c.put_scalar.ensures.kept
