-- How many declarations came, and that the rest gives the answer.
use Rattle.std.proofs.Common.{◌≡◌, ◌≤◌, [], length, take, drop}
use Rattle.soap_envelope.specs.{BadNames.are_good, Bindings.innermost, Scopes.declared_on}
use Rattle.soap_envelope.proofs.names.are_good.Given as goal

abbrev pub invariant-loop-attribute : goal.invariant-loop-attribute
invariant-loop-attribute l = record {
  few : l.before ≤ l.attribute-index;
  within : l.before ≤ length (innermost l.inner);
  left : drop l.before (innermost l.inner) ≡ declared_on (drop l.attribute-index l.attributes);
  same : are_good l.inner (take l.before (innermost l.inner)) (drop l.attribute-index l.attributes)
      ≡ are_good l.inner [] l.attributes;
}
