use Rattle.std.proofs.Common.{◌≡◌, drop}
use Rattle.reliable_sequence.specs.Blocks.{attribute_value}
use Rattle.reliable_sequence.proofs.reading.attribute_value.Given as goal

abbrev pub invariant-loop-item : goal.invariant-loop-item
invariant-loop-item l =
    attribute_value l.name (drop l.item-index l.behind) ≡ attribute_value l.name l.behind
