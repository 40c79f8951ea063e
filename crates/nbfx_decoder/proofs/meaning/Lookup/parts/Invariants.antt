use Rattle.nbfx_values.specs.Items.{is_valid_attribute}
use Rattle.nbfx_records.specs.{Meaning.meant_part, Valid.is_valid_part}
use Rattle.nbfx_decoder.{specs.Meant.table_of, proofs.MeaningFacts.AreFound}
use Rattle.nbfx_decoder.proofs.meaning.Lookup.parts.Given as goal

abbrev pub invariant-loop-part : goal.invariant-loop-part
invariant-loop-part l = AreFound (meant_part (table_of l.self)) is_valid_part is_valid_attribute
    l.yielded l.parts
