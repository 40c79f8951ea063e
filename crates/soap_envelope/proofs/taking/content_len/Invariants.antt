-- The items so far, and those to come.
use Rattle.std.proofs.Common.{◌≡◌, ◌≤◌, ◌++◌, [], Some, drop, take}
use Rattle.soap_envelope.specs.Body.{self_standing}
use Rattle.soap_envelope.proofs.taking.content_len.Given as goal

abbrev pub invariant-loop-i : goal.invariant-loop-i
invariant-loop-i l = record {
  few : l.inner ≤ l.i;
  same : take l.i l.items ++ self_standing [] (Some l.inner) (drop l.i l.items)
      ≡ self_standing [] (Some 0) l.items;
}
