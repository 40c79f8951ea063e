use Rattle.std.proofs.Common.{◌≡◌, ◌-◌, ◌≤◌, ◌++◌, length, take}
use Rattle.{unit_streams.specs.Front.begun, nbfx_records.specs.RecordAtFront.node_at}
use Rattle.nbfx_records.proofs.reader.NodeReader.take_on.Given as goal

abbrev pub invariant-loop-used : goal.invariant-loop-used
invariant-loop-used l = record {
  within : l.used ≤ length l.piece;
  kept : l.self.begun ≡ l.initial.self.begun ++ take l.used l.piece;
  going : node_at l.place l.self.begun ≡ begun;
  failure : l.self.failure ≡ l.initial.self.failure;
}

abbrev pub decreases-loop-used : goal.decreases-loop-used
decreases-loop-used l = length l.piece - l.used
