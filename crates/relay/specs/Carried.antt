-- What a relay writes to one side for the events that it reads from the other: what opens the
-- session there, then an envelope for each document, with the strings of its own direction carried
-- on. A document that doesn't fit ends it.
use Rattle.std.specs.Prelude.{◌≡◌, ℕ, Bool, true, false, not, ◌&&◌, List, []}
use Rattle.std.specs.Prelude.{if◌then◌else◌, Some, None, Ok, Err, Option, Result, ⊤}
use Rattle.{io_edges.specs.Faults.one_more, io_edges.specs.Views.SinkView}
use Rattle.{nbfx_values.specs.Limits.Limits, unit_streams.specs.Tellers.Teller}
use Rattle.unit_streams.specs.Tellers.{state_behind}
use Rattle.string_tables.specs.{StaticStrings.Entry, StringTable.StringTable}
use Rattle.nbfx_values.specs.declared.{content.Item.Item, refusals.Offence.Offence}
use Rattle.nbfx_values.specs.declared.session.{Kind.Kind, Mode.Mode}
use Rattle.nmf_records.specs.{declared.frame.Frame.TheVariants.End, Writing.frame_bytes_of}
use Rattle.nbfx_encoder.specs.declared.sender.{SendState.SendState, Side.Side}
use Rattle.nbfx_encoder.specs.declared.sender.SendState.TheVariants.{Ready, Spent}
use Rattle.nbfx_encoder.specs.{Envelopes.envelope, Placing.Placed, Refusals.told}
use Rattle.nbfx_encoder.specs.Sending.{behind_message, first_state}
use Rattle.nbfx_encoder.specs.Spelling.{encoded, Unfit}
use Rattle.stream_loop.specs.Writing.{Wrote}
use Rattle.session_report.specs.declared.reading.Event.{Event}
use Rattle.relay.specs.declared.outcome.{Pump.Pump, PumpIn.PumpIn, PumpOut.PumpOut}
use Rattle.relay.specs.{Events.begins, Events.faulted_along, Outcomes.outbound_of}
use Rattle.session_report.specs.declared.reading.Event.TheVariants as heard
use Rattle.relay.specs.declared.outcome.PumpIn.TheVariants as ins
use Rattle.relay.specs.declared.outcome.PumpOut.TheVariants as outs

-- how a direction is written
pub record Carrying : Type 0 where
  -- as which end
  pub side : Side
  pub limits : Limits
  pub statics : List Entry
  pub mode : Mode
  pub kind : Kind
  -- what opens the session: an initiator's preamble, or a receiver's Ack
  pub opening : List ℕ

-- what the events so far have left of it
pub record Carried : Type 0 where
  -- whether the session was opened
  pub begun : Bool
  -- whether the mode admits an envelope next
  pub moment : SendState
  pub table : StringTable
  -- how many envelopes there were
  pub documents : ℕ
  -- why the next document doesn't fit
  pub unfit : Option Unfit

abbrev pub start : Carrying → Carried
start x = record {
  begun = false;
  moment = Spent;
  table = record { statics = x.statics; strings = [] };
  documents = 0;
  unfit = None;
}

-- the payload of a document that fits, where an envelope may come
abbrev pub sent_at : SendState → (unfit : Option Unfit) → Result (Placed (List ℕ)) Unfit
    → Option (Placed (List ℕ))
sent_at Ready None (Ok payload) = Some payload
sent_at moment unfit answer = None

-- why a document doesn't fit: this one, or one before
abbrev pub unfit_at : SendState → (unfit : Option Unfit) → Result (Placed (List ℕ)) Unfit
    → Option Unfit
unfit_at Ready None (Err why) = Some why
unfit_at moment unfit answer = unfit

abbrev pub envelope_with : Mode → Option (Placed (List ℕ)) → List ℕ
envelope_with mode None = []
envelope_with mode (Some payload) = envelope mode payload.0

abbrev pub behind_envelope : Mode → Option (Placed (List ℕ)) → Carried → Carried
behind_envelope mode None s = s
behind_envelope mode (Some payload) s = record s {
  moment = behind_message mode;
  table = payload.1;
  documents = one_more s.documents;
}

module _ (x : Carrying) where
  abbrev pub encoded_at : Carried → List Item → Result (Placed (List ℕ)) Unfit
  encoded_at s document = encoded x.limits x.kind s.table document

  abbrev pub payload_at : Carried → List Item → Option (Placed (List ℕ))
  payload_at s document = sent_at s.moment s.unfit (encoded_at s document)

  -- this event opens the session
  abbrev pub opens : Carried → Event → Bool
  opens s event = not s.begun && begins event x.side

  abbrev pub opened : Carried → Carried
  opened s = record s { begun = true; moment = first_state x.mode x.side }

  -- what is written for an event, and what it leaves
  abbrev pub told_for : Carried → Event → List ℕ
  told_for s (heard.Message received) = envelope_with x.mode (payload_at s received.doc)
  told_for s event = if opens s event then x.opening else []

  abbrev pub behind_document : Carried → List Item → Carried
  behind_document s document = record (behind_envelope x.mode (payload_at s document) s) {
    unfit = unfit_at s.moment s.unfit (encoded_at s document);
  }

  abbrev pub behind : Carried → Event → Carried
  behind s (heard.Message received) = behind_document s received.doc
  behind s event = if opens s event then opened s else s

  -- what is written for events; an ending is told apart (last_of)
  abbrev pub carries : Teller Carried Event Offence
  carries = record { start = start x; told = told_for; next = behind; ends = λ s refusal. [] }

  abbrev pub carried_by : List Event → Carried
  carried_by events = state_behind carries (start x) events

-- An End where the other session ended well and all documents fitted.
abbrev pub end_unless : (unfit : Option Unfit) → List ℕ
end_unless None = frame_bytes_of End []
end_unless (Some why) = []

abbrev pub last_of : PumpIn → Carried → List ℕ
last_of ins.Ended s = end_unless s.unfit
last_of read s = []

-- a document didn't fit, of those before which so many envelopes stand
abbrev pub FitsSo : PumpOut → Carried → Type 0
FitsSo outs.Done s = s.unfit ≡ None
FitsSo (outs.Unfit number fault) s =
    (why : Unfit) × (s.unfit ≡ Some why) × (number ≡ s.documents) × (fault ≡ told why)
FitsSo written s = ⊤

-- the reading of a stream with these events ended so
abbrev pub EndsSo : PumpIn → List Event → Type 0
EndsSo ins.Ended events = faulted_along false events ≡ false
EndsSo ins.PeerFault events = faulted_along false events ≡ true
EndsSo read events = ⊤

-- What was written of events and these last bytes, from when a sink was like the first until now:
-- all of it; or the writing ended at what was due behind the first of the events. Where the sink
-- holds nothing back, what is due for those is written whole, and of what was due next the first
-- bytes, or none. So the envelopes that count are written, and at most one more, whole or in part.
pub record Carries (x : Carrying) (last : List ℕ) (events : List Event) (first now : SinkView)
    (pump : Pump) : Type 0 where
  pub wrote : Wrote (carries x) (outbound_of pump.written) last first events
      (λ s. pump.documents ≡ s.documents) now
  pub fits : FitsSo pump.written (carried_by x events)
