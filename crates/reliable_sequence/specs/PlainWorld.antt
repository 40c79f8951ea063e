-- Both ends of a sequence, and all that was ever sent between them, by numbers, bodies and ranges
-- alone, without documents.
use Rattle.std.specs.Prelude.{ℕ, List, [], ◌∷◌, ◌++◌, slice_get, Some, None, Option, Ok, Err}
use Rattle.std.specs.Prelude.{Result}
use Rattle.std.specs.Option.{option_to_list}
use Rattle.nbfx_values.specs.declared.content.Item.{Item}
use Rattle.reliable_sequence.specs.declared.{ranges.Range.Range, parts.Data.Data, parts.Taken.Taken}
use Rattle.reliable_sequence.specs.declared.faults.{RmFault.RmFault, SubmitFault.SubmitFault}
use Rattle.reliable_sequence.specs.declared.events.Event.{Event, TheVariants.Ack, TheVariants.Data as Hand}
use Rattle.reliable_sequence.specs.declared.events.Event.TheVariants.{Deliver, Send, SendAck, Submit}
use Rattle.reliable_sequence.specs.Received.{after_delivery, next_body, nothing_received, Received}
use Rattle.reliable_sequence.specs.Received.{received, received_ranges}
use Rattle.reliable_sequence.specs.Sent.{acknowledged, data_of, nothing_sent, Sent, submitted}

pub record World : Type 0 where
  -- the bodies in the order of their numbers
  pub bodies : List (List Item)
  pub sender : Sent
  pub receiver : Received
  -- what was ever sent, in order
  pub data_sent : List Data
  pub ranges_sent : List (List Range)
  -- the bodies in the order in which they were delivered
  pub delivered : List (List Item)

abbrev pub new_world : ℕ → World
new_world window = record {
  bodies = [];
  sender = nothing_sent window;
  receiver = nothing_received window;
  data_sent = [];
  ranges_sent = [];
  delivered = [];
}

abbrev pub after_submission : World → List Item → Result (ℕ × Sent) SubmitFault → World
after_submission w body (Err fault) = w
after_submission w body (Ok answer) = record w {
  bodies = w.bodies ++ body ∷ [];
  sender = answer.1;
}

abbrev pub after_receipt : World → Result (Taken × Received) RmFault → World
after_receipt w (Err fault) = w
after_receipt w (Ok answer) = record w { receiver = answer.1 }

abbrev pub after_arrival : World → Option Data → World
after_arrival w None = w
after_arrival w (Some d) = after_receipt w (received w.receiver d)

abbrev pub with_sender : World → Result Sent RmFault → World
with_sender w (Err fault) = w
with_sender w (Ok sender) = record w { sender = sender }

abbrev pub after_acknowledgement : World → Option (List Range) → World
after_acknowledgement w None = w
after_acknowledgement w (Some ranges) = with_sender w (acknowledged w.sender ranges)

-- the world after an event: one that has nothing to give, or is refused, changes nothing
abbrev pub happens : World → Event → World
happens w (Submit body last) = after_submission w body (submitted w.sender body last)
happens w (Send number) = record w {
  data_sent = w.data_sent ++ option_to_list (data_of w.sender number);
}
happens w (Hand at) = after_arrival w (slice_get w.data_sent at)
happens w Deliver = record w {
  receiver = after_delivery w.receiver;
  delivered = w.delivered ++ option_to_list (next_body w.receiver.held);
}
happens w SendAck = record w {
  ranges_sent = w.ranges_sent ++ received_ranges w.receiver ∷ [];
}
happens w (Ack at) = after_acknowledgement w (slice_get w.ranges_sent at)

-- the world after a list of events
abbrev pub run : World → List Event → World
run w [] = w
run w (event ∷ more) = run (happens w event) more
