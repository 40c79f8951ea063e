use Rattle.std.proofs.Common.{◌-◌, ◌≤◌, length}
use Rattle.nbfx_records.specs.{Resuming.Fits, Resuming.Passes, Shapes.array_turn}
use Rattle.nbfx_records.proofs.arrays.parts_at.Given as goal

abbrev pub invariant-parts : goal.invariant-parts
invariant-parts l = record {
  after : l.from ≤ l.at;
  passes : Passes array_turn l.bytes l.from l.at;
  fits : Fits l.resume l.bytes;
}

abbrev pub decreases-parts : goal.decreases-parts
decreases-parts l = length l.bytes - l.at
