use Rattle.std.proofs.Common.{length}
use Rattle.nbfx_records.specs.Views.{IsList, listed}
use Rattle.nbfx_decoder.{specs.Meant.table_of, proofs.Listing.SoFar}
use Rattle.nbfx_decoder.proofs.meaning.Lookup.values_in.Given as goal

abbrev pub invariant-loop-part : goal.invariant-loop-part
invariant-loop-part l = record {
  list : IsList l.rest;
  so_far : SoFar (table_of l.self) (listed l.list) (listed l.rest) l.values;
}

abbrev pub decreases-loop-part : goal.decreases-loop-part
decreases-loop-part l = length l.rest
