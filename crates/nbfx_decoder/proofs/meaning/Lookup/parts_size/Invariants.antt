use Rattle.{std.proofs.Common.length, nbfx_values.specs.Measures.attribute_content}
use Rattle.nbfx_records.specs.Contents.{attribute_is_text, attribute_value}
use Rattle.nbfx_records.specs.{Meaning.meant_part, Views.AreParts, Views.parts_of}
use Rattle.nbfx_decoder.{specs.Meant.table_of, proofs.MeasureFacts.AreWeighed}
use Rattle.nbfx_decoder.proofs.meaning.Lookup.parts_size.Given as goal

abbrev pub invariant-loop-part : goal.invariant-loop-part
invariant-loop-part l = record {
  are : AreParts l.rest;
  so_far : AreWeighed attribute_is_text attribute_value (meant_part (table_of l.self))
      attribute_content (parts_of l.parts) (parts_of l.rest) l.content;
}

abbrev pub decreases-loop-part : goal.decreases-loop-part
decreases-loop-part l = length l.rest
