use Rattle.std.proofs.Common.{◌≡◌, [], drop}
use Rattle.reliable_sequence.specs.Blocks.{ranges_from}
use Rattle.reliable_sequence.proofs.reading.ranges_from.Given as goal

abbrev pub invariant-loop-at : goal.invariant-loop-at
invariant-loop-at l =
    ranges_from l.element l.ranges l.least (drop l.at-index l.children)
    ≡ ranges_from l.element [] 1 l.children
