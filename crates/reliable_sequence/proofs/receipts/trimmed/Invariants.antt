use Rattle.std.proofs.Common.{◌≡◌, ◌++◌, drop}
use Rattle.reliable_sequence.proofs.receipts.trimmed.Given as goal

abbrev pub invariant-loop-range : goal.invariant-loop-range
invariant-loop-range l = l.trimmed ++ drop l.range-index l.ranges ≡ l.ranges
