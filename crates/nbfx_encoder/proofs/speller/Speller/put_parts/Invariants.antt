-- On the way through the declarations and attributes.
use Rattle.{std.proofs.Common.drop, nbfx_records.specs.Chosen.part_bytes}
use Rattle.nbfx_encoder.{specs.Placing.spell_part, proofs.InLists.Along}
use Rattle.nbfx_encoder.proofs.speller.Speller.put_parts.Given as goal

abbrev pub invariant-loop-part : goal.invariant-loop-part
invariant-loop-part l =
    Along spell_part part_bytes l.fn.self l.self l.parts (drop l.part-index l.parts)
