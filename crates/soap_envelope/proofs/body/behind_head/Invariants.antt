-- The rest gives the answer.
use Rattle.{std.proofs.Common.◌≡◌, std.proofs.Common.drop, soap_envelope.specs.Body.behind_head}
use Rattle.soap_envelope.proofs.body.behind_head.Given as goal

abbrev pub invariant-loop-i : goal.invariant-loop-i
invariant-loop-i l = behind_head (drop l.i l.items) ≡ behind_head l.items
