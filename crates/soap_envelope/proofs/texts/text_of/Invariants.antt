-- The characters of the children so far, and of those to come.
use Rattle.std.proofs.Common.{◌≡◌, ◌++◌, length, slice_get, string_bytes, flat_map}
use Rattle.soap_envelope.specs.Characters.{characters_of, text_of}
use Rattle.soap_envelope.proofs.texts.text_of.Given as goal

abbrev pub invariant-loop-child : goal.invariant-loop-child
invariant-loop-child l =
    string_bytes l.text ++ flat_map (λ child. characters_of (slice_get l.items child)) l.children
    ≡ text_of l.items l.at

abbrev pub decreases-loop-child : goal.decreases-loop-child
decreases-loop-child l = length l.children
