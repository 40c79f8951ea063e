-- No item so far is a child, so the rest gives the answer.
use Rattle.std.proofs.Common.{◌≡◌, ◌≤◌, Some, drop}
use Rattle.soap_envelope.specs.Children.{children_from}
use Rattle.soap_envelope.proofs.children.child_from.Given as goal

abbrev pub invariant-loop-i : goal.invariant-loop-i
invariant-loop-i l = record {
  few : l.inner ≤ l.i;
  same : children_from (Some l.inner) l.i (drop l.i l.items)
      ≡ children_from (Some l.depth) l.from (drop l.from l.items);
}
