-- The declarations so far, and those to come.
use Rattle.std.proofs.Common.{◌≡◌, ◌++◌, drop}
use Rattle.soap_envelope.specs.{Layers.layer_of, Scopes.declared}
use Rattle.soap_envelope.proofs.scopes.declarations_in.Given as goal

abbrev pub invariant-loop-item : goal.invariant-loop-item
invariant-loop-item l = layer_of l.layer ++ declared (drop l.item-index l.behind)
    ≡ declared l.behind
