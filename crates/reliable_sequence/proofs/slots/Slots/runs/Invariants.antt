use Rattle.std.proofs.Common.{◌≡◌, ◌+◌, ◌++◌, drop}
use Rattle.reliable_sequence.specs.Ranges.{runs}
use Rattle.reliable_sequence.proofs.slots.Slots.runs.Given as goal

abbrev pub invariant-loop-at : goal.invariant-loop-at
invariant-loop-at l =
    l.ranges ++ runs l.begun (l.before + l.at) (drop l.at l.self) ≡ runs l.fn.begun l.before l.self
