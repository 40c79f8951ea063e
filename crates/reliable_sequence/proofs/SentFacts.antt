-- What the sending end keeps.
use Rattle.std.proofs.Common.{◌≡◌, ℕ, ◌-◌, List, [], ◌∷◌, length, refl, ◌∙◌}
use Rattle.reliable_sequence.specs.declared.ranges.Range.{Range}
use Rattle.reliable_sequence.specs.Received.{place_of}
use Rattle.reliable_sequence.specs.{Sent.without, Sent.without_all, Slots.Slots}
use Rattle.reliable_sequence.proofs.SlotFacts.{length-freed}

pub length-without_all : (front : ℕ) (slots : Slots) (ranges : List Range)
    → length (without_all front slots ranges) ≡ length slots
length-without_all front slots [] = refl
length-without_all front slots (r ∷ more) =
    length-without_all front (without front slots r) more
    ∙ length-freed slots (place_of front r.lower) (r.upper - front)
