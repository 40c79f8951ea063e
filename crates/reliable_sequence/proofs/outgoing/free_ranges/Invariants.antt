use Rattle.std.proofs.Common.{◌≡◌, drop}
use Rattle.reliable_sequence.specs.Sent.{without_all}
use Rattle.reliable_sequence.proofs.outgoing.free_ranges.Given as goal

abbrev pub invariant-loop-range : goal.invariant-loop-range
invariant-loop-range l =
    without_all l.front l.slots (drop l.range-index l.ranges) ≡ without_all l.front l.fn.slots l.ranges
