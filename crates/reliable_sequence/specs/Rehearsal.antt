-- Both ends of a sequence and all documents that were ever sent between them, of which any may be
-- lost, come twice or come in another order.
use Rattle.soap_envelope.specs.declared.versions.Addressing.TheVariants.{V10}
use Rattle.std.specs.Prelude.{◌≡◌, ℕ, ◌-◌, ◌^◌, ◌<◌, List, [], ◌∷◌, ◌++◌, slice_get, Some, None}
use Rattle.std.specs.Prelude.{Option, Ok, Err, Result, option_map}
use Rattle.std.specs.Option.{option_to_list}
use Rattle.nbfx_values.specs.declared.content.Item.{Item}
use Rattle.soap_envelope.specs.{Made.StandsInReplies, Making.IsContent}
use Rattle.reliable_sequence.specs.declared.faults.{RmFault.RmFault, SubmitFault.SubmitFault}
use Rattle.reliable_sequence.specs.declared.{events.Counts.Counts, parts.Taken.Taken}
use Rattle.reliable_sequence.specs.declared.events.Event.{Event, TheVariants.Ack, TheVariants.Data}
use Rattle.reliable_sequence.specs.declared.events.Event.TheVariants.{Deliver, Send, SendAck, Submit}
use Rattle.reliable_sequence.specs.Made.{data_items, ranges_items}
use Rattle.reliable_sequence.specs.Reading.{acknowledged_from, received_from}
use Rattle.reliable_sequence.specs.Received.{after_delivery, next_body, nothing_received, Received}
use Rattle.reliable_sequence.specs.Received.{received_ranges}
use Rattle.reliable_sequence.specs.Sent.{acknowledged_count, data_of, nothing_sent, Sent, submitted}
use Rattle.reliable_sequence.specs.Sent.{submitted_count}

-- what is kept: both ends, and the documents that were sent, each kind in order
pub record Kept : Type 0 where
  pub identifier : List ℕ
  pub sender : Sent
  pub receiver : Received
  pub documents : List (List Item)
  pub acknowledgements : List (List Item)

abbrev pub nothing_kept : List ℕ → (window : ℕ) → Kept
nothing_kept identifier window = record {
  identifier = identifier;
  sender = nothing_sent window;
  receiver = nothing_received window;
  documents = [];
  acknowledgements = [];
}

-- an end after a call: one that is refused leaves it as it was
abbrev pub after_submission : Sent → Result (ℕ × Sent) SubmitFault → Sent
after_submission s (Ok answer) = answer.1
after_submission s (Err fault) = s

abbrev pub after_receipt : Received → Result (Taken × Received) RmFault → Received
after_receipt r (Ok answer) = answer.1
after_receipt r (Err fault) = r

abbrev pub after_acknowledgement : Sent → Result Sent RmFault → Sent
after_acknowledgement s (Ok next) = next
after_acknowledgement s (Err fault) = s

-- the receiving end after a document, and the sending end after an acknowledgement, if there is one
abbrev pub after_document : List ℕ → Received → Option (List Item) → Received
after_document identifier r None = r
after_document identifier r (Some doc) = after_receipt r (received_from identifier r doc)

abbrev pub after_ack : List ℕ → Sent → Option (List Item) → Sent
after_ack identifier s None = s
after_ack identifier s (Some doc) = after_acknowledgement s (acknowledged_from identifier s doc)

-- the document that sends the body of a number, if it is submitted and isn't acknowledged
abbrev pub document_of : List ℕ → Sent → ℕ → Option (List Item)
document_of identifier s number = option_map (data_items identifier) (data_of s number)

-- the document that acknowledges what was received
abbrev pub ack_of : List ℕ → Received → List Item
ack_of identifier r = ranges_items identifier (received_ranges r)

-- what is kept after an event
abbrev pub kept_after : Kept → Event → Kept
kept_after k (Submit body last) = record k {
  sender = after_submission k.sender (submitted k.sender body last);
}
kept_after k (Send number) = record k {
  documents = k.documents ++ option_to_list (document_of k.identifier k.sender number);
}
kept_after k (Data at) = record k {
  receiver = after_document k.identifier k.receiver (slice_get k.documents at);
}
kept_after k Deliver = record k { receiver = after_delivery k.receiver }
kept_after k SendAck = record k {
  acknowledgements = k.acknowledgements ++ ack_of k.identifier k.receiver ∷ [];
}
kept_after k (Ack at) = record k {
  sender = after_ack k.identifier k.sender (slice_get k.acknowledgements at);
}

-- the body that an event delivers
abbrev pub delivered_by : Kept → Event → Option (List Item)
delivered_by k Deliver = next_body k.receiver.held
delivered_by k (Submit body last) = None
delivered_by k (Send number) = None
delivered_by k (Data at) = None
delivered_by k SendAck = None
delivered_by k (Ack at) = None

abbrev pub counts_of : Kept → Counts
counts_of k = record {
  submitted = submitted_count k.sender;
  delivered = k.receiver.delivered;
  acknowledged = acknowledged_count k.sender;
}

-- a body may stand in Body, and its names have their namespaces there
pub record IsBody (body : List Item) : Type 0 where
  pub content : IsContent body
  pub named : StandsInReplies V10 body

-- it may be submitted: fewer than 2^63 - 1 were before
pub record MaySubmit (s : Sent) (body : List Item) : Type 0 where
  pub fits : IsBody body
  pub few : submitted_count s < 2 ^ 63 - 1

abbrev pub MayHappen : Kept → Event → Type 0
MayHappen k (Submit body last) = MaySubmit k.sender body
MayHappen k (Send number) = Unit {0}
MayHappen k (Data at) = Unit {0}
MayHappen k Deliver = Unit {0}
MayHappen k SendAck = Unit {0}
MayHappen k (Ack at) = Unit {0}

-- a rehearsal: what is kept, and the bodies that were submitted and delivered, each in their order
pub record Rehearsal : Type 0 where
  pub kept : Kept
  pub bodies : List (List Item)
  pub delivered : List (List Item)

abbrev pub new_rehearsal : List ℕ → (window : ℕ) → Rehearsal
new_rehearsal identifier window = record {
  kept = nothing_kept identifier window;
  bodies = [];
  delivered = [];
}

-- the body that an event submits
abbrev pub if_submitted : List Item → Result (ℕ × Sent) SubmitFault → Option (List Item)
if_submitted body (Ok answer) = Some body
if_submitted body (Err fault) = None

abbrev pub submitted_by : Kept → Event → Option (List Item)
submitted_by k (Submit body last) = if_submitted body (submitted k.sender body last)
submitted_by k (Send number) = None
submitted_by k (Data at) = None
submitted_by k Deliver = None
submitted_by k SendAck = None
submitted_by k (Ack at) = None

abbrev pub rehearsed : Rehearsal → Event → Rehearsal
rehearsed r event = record {
  kept = kept_after r.kept event;
  bodies = r.bodies ++ option_to_list (submitted_by r.kept event);
  delivered = r.delivered ++ option_to_list (delivered_by r.kept event);
}

abbrev pub rehearsal : Rehearsal → List Event → Rehearsal
rehearsal r [] = r
rehearsal r (event ∷ more) = rehearsal (rehearsed r event) more

-- each event may happen when it does
abbrev pub MayGo : Rehearsal → List Event → Type 0
MayGo r [] = Unit {0}
MayGo r (event ∷ more) = MayHappen r.kept event × MayGo (rehearsed r event) more

-- events that may happen lead here from a new rehearsal
pub record IsReached (k : Kept) : Type 0 where
  pub window : ℕ
  pub events : List Event
  pub went : MayGo (new_rehearsal k.identifier window) events
  pub here : (rehearsal (new_rehearsal k.identifier window) events).kept ≡ k
