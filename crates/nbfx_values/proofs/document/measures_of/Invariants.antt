-- The items before the place lead to the position, with no more elements open than items, and have
-- the measures.
use Rattle.std.proofs.Common.{◌≡◌, ◌≤◌, take, Some}
use Rattle.nbfx_values.specs.{Measured.AreMeasuresOf, Positions.open_count, Positions.position_of}
use Rattle.nbfx_values.proofs.document.measures_of.Given as goal

abbrev pub invariant-loop-at : goal.invariant-loop-at
invariant-loop-at l = record {
  position : position_of (take l.at l.items) ≡ Some l.position;
  few : open_count l.position ≤ l.at;
  measures : AreMeasuresOf (take l.at l.items) l.measures;
}
