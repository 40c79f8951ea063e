-- The ranges of the numbers whose places have a body.
use Rattle.std.proofs.Common.{◌≡◌, ℕ, ◌+◌, ◌<◌, Bool, List, ◌++◌, length, drop, is_some, Option, add-one, append_assoc}
use Rattle.reliable_sequence.specs.declared.ranges.Range.{Range}
use Rattle.reliable_sequence.specs.Ranges.{begun_with, ended, runs}
use Rattle.reliable_sequence.specs.Slots.{body_at, Slots}
use Rattle.reliable_sequence.proofs.SlotFacts.{places_from}

-- the ranges as far as a place, and one further
pub runs_more : (slots : Slots) (at before next : ℕ) (begun : Option ℕ) (has_body : Bool)
    (old new : List Range) → at < length slots → has_body ≡ is_some (body_at slots at)
    → next ≡ before + 1 → new ≡ old ++ ended begun before has_body
    → new ++ runs (begun_with begun next has_body) next (drop (at + 1) slots)
    ≡ old ++ runs begun before (drop at slots)
runs_more slots at before next begun has_body old new within e later put =
    let here = places_from slots at within in
    rw (put, later, add-one at, here, e)
    (append_assoc old (ended begun before (is_some (body_at slots at))) _)
