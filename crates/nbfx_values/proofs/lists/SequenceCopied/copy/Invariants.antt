-- What is copied so far are the values before the place.
use Rattle.std.proofs.Common.{◌≡◌, take}
use Rattle.nbfx_values.proofs.lists.SequenceCopied.copy.Given as goal

abbrev pub invariant-loop-one : goal.invariant-loop-one
invariant-loop-one g l = l.copied ≡ take l.one-index l.one-items
