use Rattle.std.proofs.Common.{◌≡◌, drop}
use Rattle.reliable_sequence.specs.Ranges.{first_above}
use Rattle.reliable_sequence.proofs.ranges.first_above.Given as goal

-- the answer among the ranges that are left is the answer
abbrev pub invariant-loop-range : goal.invariant-loop-range
invariant-loop-range l =
    first_above l.number (drop l.range-index l.ranges) ≡ first_above l.number l.ranges
