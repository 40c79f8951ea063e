-- The names among the blocks so far.
use Rattle.std.proofs.Common.{◌≡◌, take}
use Rattle.soap_envelope.specs.Understanding.{not_understood}
use Rattle.soap_envelope.proofs.headers.foreign_names.Given as goal

abbrev pub invariant-loop-block : goal.invariant-loop-block
invariant-loop-block l = l.found ≡ not_understood l.known (take l.block-index l.blocks)
