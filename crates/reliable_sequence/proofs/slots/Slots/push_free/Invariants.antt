use Rattle.std.proofs.Common.{◌≡◌, ◌++◌, None, replicate}
use Rattle.reliable_sequence.proofs.slots.Slots.push_free.Given as goal

abbrev pub invariant-loop : goal.invariant-loop
invariant-loop l = l.self ≡ l.fn.self ++ replicate l.counter None
