use Rattle.std.proofs.Common.{◌≡◌, ◌+◌, ◌≤◌, drop}
use Rattle.reliable_sequence.specs.Slots.{free_count}
use Rattle.reliable_sequence.proofs.slots.Slots.free_count.Given as goal

abbrev pub invariant-loop-at : goal.invariant-loop-at
invariant-loop-at l = record {
  few : l.count ≤ l.at;
  all : l.count + free_count (drop l.at l.self) ≡ free_count l.self;
}
