-- Those of the declarations so far.
use Rattle.std.proofs.Common.{◌≡◌, map, take}
use Rattle.soap_envelope.specs.{Body.attribute_of, Layers.needs_of}
use Rattle.soap_envelope.proofs.ring.attributes_of.Given as goal

abbrev pub invariant-loop-one : goal.invariant-loop-one
invariant-loop-one l =
    l.attributes ≡ map attribute_of (needs_of (take l.one-index l.declarations))
