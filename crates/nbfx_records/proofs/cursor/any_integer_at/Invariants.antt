use Rattle.std.proofs.Common.{◌≡◌, ◌-◌, take, drop}
use Rattle.unit_streams.specs.Front.{begun}
use Rattle.multibyte_ints.specs.{Integer.int_at, Reader.StandsFor}
use Rattle.nbfx_records.proofs.cursor.any_integer_at.Given as goal

abbrev pub invariant-loop-at : goal.invariant-loop-at
invariant-loop-at l =
    let so_far = take (l.at - l.from) (drop l.from l.bytes) in
    record { stands : StandsFor l.reader so_far; begins : int_at so_far ≡ begun }
