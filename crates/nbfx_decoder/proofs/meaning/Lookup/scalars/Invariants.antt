use Rattle.nbfx_values.specs.Scalars.{is_valid_scalar}
use Rattle.nbfx_records.specs.{Meaning.meant_scalar, Valid.is_valid_raw}
use Rattle.nbfx_decoder.{specs.Meant.table_of, proofs.MeaningFacts.AreFound}
use Rattle.nbfx_decoder.proofs.meaning.Lookup.scalars.Given as goal

abbrev pub invariant-loop-scalar : goal.invariant-loop-scalar
invariant-loop-scalar l = AreFound (meant_scalar (table_of l.self)) is_valid_raw is_valid_scalar
    l.yielded l.values
