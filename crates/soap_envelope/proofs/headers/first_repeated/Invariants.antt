-- None of the blocks so far is repeated, so the rest gives the answer.
use Rattle.std.proofs.Common.{◌≡◌, drop, take}
use Rattle.soap_envelope.specs.Headers.{repeated, repeated_behind}
use Rattle.soap_envelope.proofs.headers.first_repeated.Given as goal

abbrev pub invariant-loop-i : goal.invariant-loop-i
invariant-loop-i l =
    repeated_behind l.version (take l.i l.blocks) (drop l.i l.blocks) ≡ repeated l.version l.blocks
