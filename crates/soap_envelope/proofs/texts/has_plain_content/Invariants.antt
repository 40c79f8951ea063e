-- The children so far are plain, so the rest gives the answer.
use Rattle.std.proofs.Common.{◌≡◌, length, slice_get}
use Rattle.std.specs.List.{list_all}
use Rattle.soap_envelope.specs.Characters.{has_plain_content, is_plain}
use Rattle.soap_envelope.proofs.texts.has_plain_content.Given as goal

abbrev pub invariant-loop-child : goal.invariant-loop-child
invariant-loop-child l =
    list_all (λ child. is_plain (slice_get l.items child)) l.children
    ≡ has_plain_content l.items l.at

abbrev pub decreases-loop-child : goal.decreases-loop-child
decreases-loop-child l = length l.children
