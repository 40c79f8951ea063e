-- What holds of every sequence, whatever is lost, comes twice or comes in another order.
use Rattle.std.specs.Prelude.{◌≡◌, ℕ, ◌+◌, ◌<◌, ◌↔◌, ◌⊎◌, List, ◌++◌, length, slice_get}
use Rattle.std.specs.Prelude.{IsTrue, Some, None, Ok}
use Rattle.nbfx_values.specs.declared.content.Item.{Item}
use Rattle.reliable_sequence.specs.declared.{events.Event.Event, parts.Taken.Taken}
use Rattle.reliable_sequence.specs.declared.ranges.Range.{Range}
use Rattle.reliable_sequence.specs.Ranges.{first_above, is_in, rise_from}
use Rattle.reliable_sequence.specs.Reading.{acknowledged_from, received_from}
use Rattle.reliable_sequence.specs.Received.{has_number, Received, received_ranges}
use Rattle.reliable_sequence.specs.Rehearsal.{MayGo, new_rehearsal, Rehearsal, rehearsal}
use Rattle.reliable_sequence.specs.Sent.{acknowledged_among, acknowledged_count, is_acknowledged, Sent}
use Rattle.reliable_sequence.specs.Sent.{sent_without, submitted_count}
use Rattle.reliable_sequence.specs.{Slots.body_at}

-- the first bodies are others
abbrev pub IsPrefixOf : (first all : List (List Item)) → Type 0
IsPrefixOf first all = (rest : List (List Item)) × (first ++ rest ≡ all)

-- after any events
abbrev pub Always : (Rehearsal → Type 0) → Type 0
Always P =
    (identifier : List ℕ) (window : ℕ) (events : List Event)
    → MayGo (new_rehearsal identifier window) events
    → P (rehearsal (new_rehearsal identifier window) events)

-- what was delivered are the first of the bodies that were submitted, in their order
abbrev pub DeliversInOrder : Rehearsal → Type 0
DeliversInOrder r = IsPrefixOf r.delivered r.bodies

-- a body that is held is the one that was submitted under its number, which is above the count of
-- delivered bodies by at most the window
abbrev pub HoldsWhatWasSubmitted : Rehearsal → Type 0
HoldsWhatWasSubmitted r =
    let end = r.kept.receiver in
    (place : ℕ) (body : List Item) → body_at end.held place ≡ Some body
    → (slice_get r.bodies (end.delivered + place) ≡ Some body) × (place < end.window)

-- a number that the sending end counts as acknowledged was delivered or is held
abbrev pub AcknowledgesWhatWasReceived : Rehearsal → Type 0
AcknowledgesWhatWasReceived r =
    (number : ℕ) → IsTrue (is_acknowledged r.kept.sender number)
    → IsTrue (has_number r.kept.receiver number)

-- each end takes each document that was ever sent to it, without a fault
abbrev pub TakesDocuments : Rehearsal → Type 0
TakesDocuments r =
    (at : ℕ) (doc : List Item) → slice_get r.kept.documents at ≡ Some doc
    → (answer : Taken × Received)
    × (received_from r.kept.identifier r.kept.receiver doc ≡ Ok answer)

abbrev pub TakesAcknowledgements : Rehearsal → Type 0
TakesAcknowledgements r =
    (at : ℕ) (doc : List Item) → slice_get r.kept.acknowledgements at ≡ Some doc
    → (next : Sent) × (acknowledged_from r.kept.identifier r.kept.sender doc ≡ Ok next)

-- what is counted are the bodies that were submitted, those that were delivered, and the numbers that
-- are acknowledged
pub record AreCounted (r : Rehearsal) : Type 0 where
  pub submitted : submitted_count r.kept.sender ≡ length r.bodies
  pub delivered : r.kept.receiver.delivered ≡ length r.delivered
  pub acknowledged : acknowledged_count r.kept.sender
      ≡ acknowledged_among r.kept.sender (length r.bodies)

-- exactly the numbers of ranges are acknowledged by them, beside those that were before
abbrev pub RangesAreCounted : Type 0
RangesAreCounted =
    (s : Sent) (ranges : List Range) (number : ℕ) → first_above (submitted_count s) ranges ≡ None
    → IsTrue (is_acknowledged (sent_without s ranges) number)
    ↔ (IsTrue (is_acknowledged s number) ⊎ ((0 < number) × IsTrue (is_in ranges number)))

-- what is sent as ranges are exactly the numbers that were received
abbrev pub RangesAreReceived : Type 0
RangesAreReceived =
    (r : Received) (number : ℕ) → IsTrue (is_in (received_ranges r) number)
    ↔ ((0 < number) × IsTrue (has_number r number))

-- and these ranges rise from 1 on, and neither meet nor touch
abbrev pub RangesRise : Type 0
RangesRise = (r : Received) → IsTrue (rise_from 1 (received_ranges r))
