-- How many declarations came, and that the rest gives the answer.
use Rattle.std.proofs.Common.{◌≡◌, ◌+◌, ◌≤◌, [], length, take, drop}
use Rattle.soap_envelope.specs.{BadNames.bad_attribute, Bindings.innermost, Scopes.declared}
use Rattle.soap_envelope.proofs.names.bad_attribute.Given as goal

abbrev pub invariant-loop-i : goal.invariant-loop-i
invariant-loop-i l = record {
  few : l.before ≤ l.i;
  within : l.before ≤ length (innermost l.inner);
  left : drop l.before (innermost l.inner) ≡ declared (drop l.i l.behind);
  same : bad_attribute l.inner (take l.before (innermost l.inner)) (l.at + l.i) (drop l.i l.behind)
      ≡ bad_attribute l.inner [] l.at l.behind;
}
