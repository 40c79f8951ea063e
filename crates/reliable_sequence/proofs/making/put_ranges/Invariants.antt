use Rattle.std.proofs.Common.{◌≡◌, ◌++◌, drop, flat_map}
use Rattle.reliable_sequence.specs.Made.{range_items}
use Rattle.reliable_sequence.proofs.making.put_ranges.Given as goal

abbrev pub invariant-loop-range : goal.invariant-loop-range
invariant-loop-range l =
    l.items ++ flat_map range_items (drop l.range-index l.ranges)
    ≡ l.fn.items ++ flat_map range_items l.ranges
