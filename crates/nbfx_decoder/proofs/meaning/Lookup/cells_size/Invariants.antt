use Rattle.std.proofs.Common.{◌≡◌, List, sum_by}
use Rattle.nbfx_values.specs.declared.scalars.Scalar.{Scalar}
use Rattle.nbfx_values.specs.Measures.{capped, scalar_content}
use Rattle.nbfx_records.{proofs.CellFacts.AreLeft, specs.Views.cells_seen}
use Rattle.nbfx_decoder.proofs.meaning.Lookup.cells_size.Given as goal

abbrev pub invariant-loop-place : goal.invariant-loop-place
invariant-loop-place l =
    (values : List Scalar) × AreLeft (cells_seen l.part) l._place l.rest values
    × (l.content ≡ capped (sum_by scalar_content values))
