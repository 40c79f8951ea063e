-- So many items so far, and those at the head of the rest.
use Rattle.std.proofs.Common.{◌≡◌, ◌+◌, drop}
use Rattle.soap_envelope.specs.Bindings.{head_len}
use Rattle.soap_envelope.proofs.scopes.head_len.Given as goal

abbrev pub invariant-loop-i : goal.invariant-loop-i
invariant-loop-i l = l.i + head_len (drop l.i l.behind) ≡ head_len l.behind
