-- The declarations so far, and those to come.
use Rattle.std.proofs.Common.{◌≡◌, ◌++◌, drop, take}
use Rattle.soap_envelope.specs.{Layers.layer_of, Scopes.declared}
use Rattle.soap_envelope.proofs.ring.declarations_ahead.Given as goal

abbrev pub invariant-loop-at : goal.invariant-loop-at
invariant-loop-at l =
    layer_of l.layer ++ declared (drop l.at (take l.count l.ring.items))
    ≡ declared (take l.count l.ring.items)
