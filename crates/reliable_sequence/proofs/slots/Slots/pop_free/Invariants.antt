use Rattle.std.proofs.Common.{◌≡◌, ◌+◌, drop, length}
use Rattle.reliable_sequence.specs.Slots.{leading_free}
use Rattle.reliable_sequence.proofs.slots.Slots.pop_free.Given as goal

abbrev pub invariant-loop-count : goal.invariant-loop-count
invariant-loop-count l = record {
  all : l.len ≡ length l.fn.self;
  left : l.self ≡ drop l.count l.fn.self;
  free : leading_free l.fn.self ≡ l.count + leading_free l.self;
}
