-- Those of the declarations so far that are missing.
use Rattle.std.proofs.Common.{◌≡◌, take}
use Rattle.soap_envelope.specs.{Body.missing, Layers.needs_of}
use Rattle.soap_envelope.proofs.ring.missing_of.Given as goal

abbrev pub invariant-loop-one : goal.invariant-loop-one
invariant-loop-one l = needs_of l.lacking.items ≡ missing (needs_of (take l.one-index l.needs)) l.own
