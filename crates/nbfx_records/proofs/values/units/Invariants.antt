use Rattle.std.proofs.Common.{◌≡◌, ◌++◌, ◌*◌, drop}
use Rattle.nbfx_records.specs.Contents.{units_of}
use Rattle.nbfx_records.proofs.values.units.Given as goal

abbrev pub invariant-loop-place : goal.invariant-loop-place
invariant-loop-place l = l.units.items ++ units_of (drop (2 * l.place) l.bytes) ≡ units_of l.bytes
