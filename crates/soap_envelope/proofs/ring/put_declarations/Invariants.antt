-- Those so far.
use Rattle.std.proofs.Common.{◌≡◌, ◌++◌, map, take}
use Rattle.soap_envelope.specs.{Body.xmlns_of, Layers.needs_of}
use Rattle.soap_envelope.proofs.ring.put_declarations.Given as goal

abbrev pub invariant-loop-one : goal.invariant-loop-one
invariant-loop-one l =
    l.ring.items
    ≡ l.initial.ring.items ++ map xmlns_of (needs_of (take l.one-index l.declarations))
