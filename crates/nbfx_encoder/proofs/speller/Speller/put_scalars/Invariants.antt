-- On the way through the values.
use Rattle.{std.proofs.Common.false, std.proofs.Common.drop, nbfx_records.specs.Chosen.scalar_bytes}
use Rattle.nbfx_encoder.{specs.Placing.spell_scalar, proofs.InLists.Along}
use Rattle.nbfx_encoder.proofs.speller.Speller.put_scalars.Given as goal

abbrev pub invariant-loop-value : goal.invariant-loop-value
invariant-loop-value l =
    Along spell_scalar (scalar_bytes false) l.fn.self l.self l.values (drop l.value-index l.values)
