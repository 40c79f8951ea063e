-- Those of the children so far, and of those to come, that aren't passed over.
use Rattle.std.proofs.Common.{◌≡◌, not, ◌++◌, length, slice_get, filter}
use Rattle.soap_envelope.specs.{Characters.is_passed, Parts.kept_children}
use Rattle.soap_envelope.proofs.parts.kept_children.Given as goal

abbrev pub invariant-loop-child : goal.invariant-loop-child
invariant-loop-child l =
    l.kept.items ++ filter (λ child. not (is_passed (slice_get l.items child))) l.children
    ≡ kept_children l.items l.at

abbrev pub decreases-loop-child : goal.decreases-loop-child
decreases-loop-child l = length l.children
