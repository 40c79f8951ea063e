-- The later declarations.
use Rattle.std.proofs.Common.{◌≡◌, ◌≤◌, ◌++◌, length, drop}
use Rattle.soap_envelope.specs.{Bindings.head_len, Scopes.declared}
use Rattle.soap_envelope.proofs.scopes.bind_declared.Given as goal

abbrev pub invariant-loop-more : goal.invariant-loop-more
invariant-loop-more l = record {
  within : l.more ≤ length l.behind;
  head : l.more ≤ head_len l.behind;
  same : l.bound ≡ declared (drop l.more l.behind) ++ l.initial.bound;
}

abbrev pub decreases-loop-more : goal.decreases-loop-more
decreases-loop-more l = l.more
