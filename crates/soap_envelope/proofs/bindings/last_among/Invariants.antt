-- None of the later declarations is of the prefix.
use Rattle.std.proofs.Common.{◌≡◌, ◌≤◌, length, map, reverse, take}
use Rattle.soap_envelope.specs.Bindings.{bound_as, last_of}
use Rattle.soap_envelope.proofs.bindings.last_among.Given as goal

abbrev pub invariant-loop-more : goal.invariant-loop-more
invariant-loop-more l = record {
  within : l.more ≤ length l.bound;
  same : last_of l.prefix (map bound_as (reverse (take l.more l.bound)))
      ≡ last_of l.prefix (map bound_as (reverse l.bound));
}

abbrev pub decreases-loop-more : goal.decreases-loop-more
decreases-loop-more l = l.more
