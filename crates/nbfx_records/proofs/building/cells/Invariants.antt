use Rattle.nbfx_records.{specs.Views.cells_seen, proofs.CellFacts.AreLeft}
use Rattle.nbfx_records.proofs.building.cells.Given as goal

abbrev pub invariant-loop-place : goal.invariant-loop-place
invariant-loop-place l = AreLeft (cells_seen l.part) l._place l.rest l.values
