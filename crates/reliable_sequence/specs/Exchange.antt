-- What a world keeps of what was sent: numbers, bodies and ranges, from which each document is made.
use Rattle.std.specs.Prelude.{ℕ, ◌+◌, ◌-◌, ◌==◌, Bool, ◌&&◌, nat_le, not, List, [], ◌∷◌, ◌++◌, map, slice_get, take}
use Rattle.std.specs.Prelude.{Some, None, Option, Ok, Err, Result, option_map}
use Rattle.nbfx_values.specs.declared.content.Item.{Item}
use Rattle.reliable_sequence.specs.declared.faults.SubmitFault.{SubmitFault}
use Rattle.reliable_sequence.specs.declared.{parts.Data.Data, parts.Marked.Marked, ranges.Range.Range}
use Rattle.reliable_sequence.specs.Made.{data_items, ranges_items}
use Rattle.reliable_sequence.specs.{PlainWorld.World, Received.has_number}
use Rattle.reliable_sequence.specs.{Received.Received, Received.received}
use Rattle.reliable_sequence.specs.Rehearsal.{after_acknowledgement, after_receipt, Kept, Rehearsal}
use Rattle.reliable_sequence.specs.Sent.{acknowledged, body_of, Sent, submitted_count}

-- the rehearsal of a world
abbrev pub in_documents : List ℕ → World → Rehearsal
in_documents identifier w = record {
  kept = record {
    identifier = identifier;
    sender = w.sender;
    receiver = w.receiver;
    documents = map (data_items identifier) w.data_sent;
    acknowledgements = map (ranges_items identifier) w.ranges_sent;
  };
  bodies = w.bodies;
  delivered = w.delivered;
}

-- what is sent under a number, of the bodies that were submitted
abbrev pub body_or_none : Option (List Item) → List Item
body_or_none None = []
body_or_none (Some body) = body

abbrev pub data_at : List (List Item) → Marked → Data
data_at bodies m = record {
  number = m.number;
  last = m.last;
  body = body_or_none (slice_get bodies (m.number - 1));
}

-- the world of these parts
abbrev pub world_of : Sent → Received → List (List Item) → List Marked → List (List Range) → World
world_of s r bodies marks ranges = record {
  bodies = bodies;
  sender = s;
  receiver = r;
  data_sent = map (data_at bodies) marks;
  ranges_sent = ranges;
  delivered = take r.delivered bodies;
}

abbrev pub kept_of : List ℕ → World → Kept
kept_of identifier w = (in_documents identifier w).kept

-- what a submission leaves, by its answer
abbrev pub with_submission : Sent → List (List Item) → List Item → Result (ℕ × Sent) SubmitFault
    → Sent × List (List Item)
with_submission s bodies body (Ok answer) = (answer.1, bodies ++ body ∷ [])
with_submission s bodies body (Err fault) = (s, bodies)

-- the mark of a number that may be sent
abbrev pub marked : Sent → ℕ → List Item → Marked
marked s number body = record { number = number; last = s.closed && number == submitted_count s }

abbrev pub mark_of : Sent → ℕ → Option Marked
mark_of s number = option_map (marked s number) (body_of s number)

-- whether the body of a number is held once it is taken
abbrev pub is_wanted : Received → ℕ → Bool
is_wanted r number = not (has_number r number) && nat_le number (r.delivered + r.window)

-- the receiving end after what was sent, and the sending end after ranges, if there are such
abbrev pub after_data : Received → Option Data → Received
after_data r None = r
after_data r (Some d) = after_receipt r (received r d)

abbrev pub after_ranges : Sent → Option (List Range) → Sent
after_ranges s None = s
after_ranges s (Some ranges) = after_acknowledgement s (acknowledged s ranges)
