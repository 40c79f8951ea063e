-- What is left behind the items so far, where the rest fits just where all do.
use Rattle.std.proofs.Common.{◌≡◌, ◌≤◌, drop, nat_le, Some}
use Rattle.soap_envelope.specs.{Body.self_standing, Fitting.counted, Fitting.measure_of}
use Rattle.soap_envelope.proofs.fitting.measure_fits.Given as goal

abbrev pub invariant-loop-i : goal.invariant-loop-i
invariant-loop-i l = record {
  few : l.inner ≤ l.i;
  left : l.left ≤ l.most;
  same : nat_le (measure_of l.measure
      (self_standing (counted l.counted) (Some l.inner) (drop l.i l.items))) l.left
      ≡ nat_le (measure_of l.measure (self_standing (counted l.counted) (Some 0) l.items)) l.most;
}
