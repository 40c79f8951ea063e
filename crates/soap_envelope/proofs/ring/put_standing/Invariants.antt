-- The items to come, and behind them those that were put.
use Rattle.soap_envelope.proofs.ring.put_standing.Given as goal
use Rattle.soap_envelope.specs.{Layers.needs_of}
use Rattle.soap_envelope.proofs.Turning.{IsTurned}

abbrev pub invariant-loop-i : goal.invariant-loop-i
invariant-loop-i l = IsTurned (needs_of l.needs) l.initial.ring.items l.i l.inner l.ring.items
