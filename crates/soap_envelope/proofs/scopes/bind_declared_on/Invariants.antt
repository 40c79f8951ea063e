-- The later declarations.
use Rattle.std.proofs.Common.{◌≡◌, ◌≤◌, ◌++◌, drop, length}
use Rattle.soap_envelope.specs.Scopes.{declared_on}
use Rattle.soap_envelope.proofs.scopes.bind_declared_on.Given as goal

abbrev pub invariant-loop-more : goal.invariant-loop-more
invariant-loop-more l = record {
  within : l.more ≤ length l.attributes;
  same : l.bound ≡ declared_on (drop l.more l.attributes) ++ l.initial.bound;
}

abbrev pub decreases-loop-more : goal.decreases-loop-more
decreases-loop-more l = l.more
