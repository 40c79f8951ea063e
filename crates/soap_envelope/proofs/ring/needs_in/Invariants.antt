-- The declarations so far, and those to come.
use Rattle.std.proofs.Common.{◌≡◌, ◌++◌, drop}
use Rattle.soap_envelope.specs.{Layers.needs_of, Scopes.declared}
use Rattle.soap_envelope.proofs.ring.needs_in.Given as goal

abbrev pub invariant-loop-item : goal.invariant-loop-item
invariant-loop-item l =
    needs_of l.needs.items ++ declared (drop l.item-index l.items) ≡ declared l.items
