-- The receiving end with what it acknowledged, whose ranges are kept once where they come again in
-- turn.
use Rattle.std.specs.Prelude.{ℕ, ◌<◌, List, [], ◌∷◌, slice_get, Some, None, Option}
use Rattle.reliable_sequence.specs.declared.ranges.Range.{Range}
use Rattle.reliable_sequence.specs.Received.{Received}

pub record Receipts : Type 0 where
  pub received : Received
  -- the ranges of the acknowledgements that were sent, in order
  pub sent : List (List Range)

abbrev pub receipts : Received → List (List Range) → Receipts
receipts received sent = record { received = received; sent = sent }

abbrev pub ranges_or_none : Option (List Range) → List Range
ranges_or_none None = []
ranges_or_none (Some ranges) = ranges

-- the list at a place
abbrev pub ranges_at : List (List Range) → ℕ → List Range
ranges_at lists place = ranges_or_none (slice_get lists place)

-- the places are below a number
abbrev pub AreBelow : ℕ → List ℕ → Type 0
AreBelow n [] = Unit {0}
AreBelow n (place ∷ more) = (place < n) × AreBelow n more
