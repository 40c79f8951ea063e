use Rattle.std.proofs.Common.{◌≡◌, length}
use Rattle.static_dictionary.specs.Inside.{ArePlaced}
use Rattle.static_dictionary.proofs.table.placed_of.Given as goal

abbrev pub invariant-loop-place : goal.invariant-loop-place
invariant-loop-place l =
    record { count : length l.placed.items ≡ l.place; are : ArePlaced l.placed.items l.by_id }
