use Rattle.std.proofs.Common.{◌≡◌}
use Rattle.reliable_sequence.specs.Slots.{freed}
use Rattle.reliable_sequence.proofs.slots.Slots.free.Given as goal

abbrev pub invariant-loop-at : goal.invariant-loop-at
invariant-loop-at l = l.self ≡ freed l.fn.self l.fn.from l.at
