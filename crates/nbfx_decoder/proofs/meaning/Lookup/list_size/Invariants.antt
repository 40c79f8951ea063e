use Rattle.{std.proofs.Common.length, nbfx_values.specs.Measures.scalar_content}
use Rattle.nbfx_records.specs.Contents.{scalar_is_text, scalar_value}
use Rattle.nbfx_records.specs.{Meaning.meant_scalar, Views.IsList, Views.listed}
use Rattle.nbfx_decoder.{specs.Meant.table_of, proofs.MeasureFacts.AreWeighed}
use Rattle.nbfx_decoder.proofs.meaning.Lookup.list_size.Given as goal

abbrev pub invariant-loop-part : goal.invariant-loop-part
invariant-loop-part l = record {
  list : IsList l.rest;
  so_far : AreWeighed scalar_is_text scalar_value (meant_scalar (table_of l.self)) scalar_content
      (listed l.list) (listed l.rest) l.content;
}

abbrev pub decreases-loop-part : goal.decreases-loop-part
decreases-loop-part l = length l.rest
