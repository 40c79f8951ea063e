-- The texts of the children so far, and of those to come.
use Rattle.std.proofs.Common.{◌≡◌, ◌++◌, length}
use Rattle.soap_envelope.specs.View.{texts_among, texts_of}
use Rattle.soap_envelope.proofs.envelope.texts_of.Given as goal

abbrev pub invariant-loop-child : goal.invariant-loop-child
invariant-loop-child l =
    l.texts ++ texts_among l.items l.children ≡ texts_of l.items l.at

abbrev pub decreases-loop-child : goal.decreases-loop-child
decreases-loop-child l = length l.children
