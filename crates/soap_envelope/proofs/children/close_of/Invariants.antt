-- The rest gives the answer.
use Rattle.std.proofs.Common.{◌≡◌, ◌≤◌, drop}
use Rattle.soap_envelope.specs.Children.{close_from, close_of}
use Rattle.soap_envelope.proofs.children.close_of.Given as goal

abbrev pub invariant-loop-i : goal.invariant-loop-i
invariant-loop-i l = record {
  few : l.inner ≤ l.i;
  same : close_from l.inner l.i (drop l.i l.items) ≡ close_of l.items l.at;
}
