use Rattle.std.proofs.Common.{◌-◌, ◌≤◌, true, length}
use Rattle.nbfx_records.specs.{Resuming.Fits, Resuming.Passes, Shapes.list_turn}
use Rattle.nbfx_records.proofs.lists.list_at.Given as goal

abbrev pub invariant-values : goal.invariant-values
invariant-values l = record {
  after : l.from ≤ l.at;
  passes : Passes (list_turn true) l.bytes l.from
      l.at;
  fits : Fits l.resume l.bytes;
}

abbrev pub decreases-values : goal.decreases-values
decreases-values l = length l.bytes - l.at
