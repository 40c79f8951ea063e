-- The later declarations.
use Rattle.std.proofs.Common.{◌≡◌, ◌≤◌, drop, length, map}
use Rattle.soap_envelope.specs.{Layers.kept}
use Rattle.soap_envelope.proofs.ring.layer_with.Given as goal

abbrev pub invariant-loop-more : goal.invariant-loop-more
invariant-loop-more l = record {
  within : l.more ≤ length l.declarations;
  same : l.layer ≡ drop l.more (map kept l.declarations);
}

abbrev pub decreases-loop-more : goal.decreases-loop-more
decreases-loop-more l = l.more
