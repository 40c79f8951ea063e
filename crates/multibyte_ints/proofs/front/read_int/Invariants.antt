use Rattle.{std.proofs.Common.◌≡◌, std.proofs.Common.take, unit_streams.specs.Front.begun}
use Rattle.multibyte_ints.specs.{Integer.int_at, Reader.StandsFor}
use Rattle.multibyte_ints.proofs.front.read_int.Given as goal

abbrev pub invariant-loop-at : goal.invariant-loop-at
invariant-loop-at l = record {
  stands : StandsFor l.reader (take l.at l.bytes);
  begins : int_at
      (take l.at l.bytes) ≡ begun;
}
