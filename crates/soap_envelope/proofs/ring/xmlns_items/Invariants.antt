-- Those of the declarations so far.
use Rattle.std.proofs.Common.{◌≡◌, map, take}
use Rattle.soap_envelope.specs.{Body.xmlns_of, Layers.kept}
use Rattle.soap_envelope.proofs.ring.xmlns_items.Given as goal

abbrev pub invariant-loop-one : goal.invariant-loop-one
invariant-loop-one l = l.items ≡ map xmlns_of (map kept (take l.one-index l.declarations))
