-- What was read, reported and sent by a call, however it ends.
use Rattle.std.specs.Prelude.{◌≡◌, ℕ, ◌⊎◌, List, [], ◌∷◌, ◌++◌, map, length, Some, None, Ok}
use Rattle.std.specs.Prelude.{Err, ⊤}
use Rattle.io_edges.specs.{Faults.CountsFaults, Flow.GrowsByPrefix}
use Rattle.unit_streams.specs.{Judging.events, Judging.offence, Tellers.state_behind}
use Rattle.{string_tables.specs.StringTable.StringTable, client.specs.Sent.sent_by}
use Rattle.nbfx_values.specs.declared.{content.Item.Item, refusals.Offence.Offence}
use Rattle.client.specs.Sent.{kind_of}
use Rattle.nbfx_encoder.specs.{Envelopes.UnfitAt, Placing.Placed, Refusals.told}
use Rattle.stream_reader.specs.Stream.{receivers, Settings, stream, StreamEvent}
use Rattle.stream_loop.specs.declared.{following.FollowEnding.FollowEnding}
use Rattle.stream_loop.specs.declared.{outbound.Outbound.Outbound}
use Rattle.stream_loop.specs.{Edges.Input, Exchanged.Exchanged, Exchanged.WritesOf}
use Rattle.stream_loop.specs.Writing.{IsCut, Wrote}
use Rattle.initiator_machine.specs.Opening.{opening_bytes}
use Rattle.session_report.specs.declared.{reading.Event.Event, reporter.Outcome.Outcome}
use Rattle.session_report.specs.Report.{last_line, outcome, report}
use Rattle.session_report.specs.Saying.{event_for, said_by}
use Rattle.command_words.specs.declared.task.Detail.TheVariants.{Whole}
use Rattle.client.specs.declared.outcome.{CallOutcome.CallOutcome, ClientOut.ClientOut}
use Rattle.client.specs.declared.outcome.ClientIn.{ClientIn, TheVariants.ReadFault}
use Rattle.client.specs.declared.outcome.ClientIn.TheVariants.{Ended, Memory, Offended, PeerFault}
use Rattle.client.specs.Sent.{due_next, envelopes, HasBroken, HasSentAll, HasSentFitting, Sending}
use Rattle.io_edges.specs.Views.{HoldsNothing, SinkView}
use Rattle.io_edges.specs.Puts.{Puts}
use Rattle.stream_loop.specs.declared.following.FollowEnding.TheVariants as endings
use Rattle.stream_loop.specs.declared.outbound.Outbound.TheVariants as outbounds
use Rattle.session_report.specs.declared.reading.Event.TheVariants as said
use Rattle.session_report.specs.declared.reporter.Outcome.TheVariants as reached
use Rattle.client.specs.declared.outcome.ClientOut.TheVariants as out

-- ---- the peer's stream

-- the stream of a receiver that answers in this mode and encoding
abbrev pub answers_to : Sending → Settings
answers_to x = record {
  side = receivers x.mode (kind_of x);
  statics = x.statics;
  limits = x.back;
}

-- its report, with documents
abbrev pub dumped : Sending → List ℕ → List ℕ
dumped x bytes = report Whole (answers_to x) bytes

-- whether the peer's Preamble Ack was read
pub data Ack : Type 0 where
  Awaited : Ack
  Read : Ack

-- after an event
abbrev pub ack_after : Ack → Event → Ack
ack_after ack said.Accepted = Read
ack_after ack event = ack

-- and after events
unfoldable pub ack_along : Ack → List Event → Ack
ack_along ack [] = ack
ack_along ack (event ∷ events) = ack_along (ack_after ack event) events

-- the events of a stream, as they are said
abbrev pub handled_of : Sending → List ℕ → List Event
handled_of x bytes = map event_for (events (stream (answers_to x)) bytes)

-- how the session has ended by events
abbrev pub reached_along : List Event → Outcome
reached_along handled = state_behind (said_by Whole) reached.Open handled

-- how the reading of it ended
abbrev pub inbound_by : FollowEnding Offence → Outcome → ClientIn
inbound_by (endings.Judged (Some offence)) reached = Offended offence
inbound_by (endings.Judged None) reached.Faulted = PeerFault
inbound_by (endings.Judged None) reached = Ended
inbound_by endings.ReadFault reached = ReadFault
inbound_by endings.Memory reached = Memory

abbrev pub ending_of : ClientIn → FollowEnding Offence
ending_of Ended = endings.Judged None
ending_of PeerFault = endings.Judged None
ending_of (Offended offence) = endings.Judged (Some offence)
ending_of ReadFault = endings.ReadFault
ending_of Memory = endings.Memory

-- the last line of the report: a stream that isn't judged has none
abbrev pub closing_of : FollowEnding Offence → Outcome → List ℕ
closing_of (endings.Judged refusal) reached = last_line reached refusal
closing_of endings.ReadFault reached = []
closing_of endings.Memory reached = []

-- a stream that was read to its end is judged as its bytes are
abbrev pub Judges : Sending → (bytes : List ℕ) → ClientIn → Type 0
Judges x bytes Ended = (offence (stream (answers_to x)) bytes ≡ None)
    × (outcome Whole (answers_to x) bytes ≡ reached.Faulted → ⊥)
Judges x bytes PeerFault = (offence (stream (answers_to x)) bytes ≡ None)
    × (outcome Whole (answers_to x) bytes ≡ reached.Faulted)
Judges x bytes (Offended o) = offence (stream (answers_to x)) bytes ≡ Some o
Judges x bytes ReadFault = ⊤
Judges x bytes Memory = ⊤

-- What is written of its report, behind what was held: all of it, where the stream was read to its
-- end and nothing has ended the writing; else first bytes of that.
abbrev pub ReportsOf : (report held w w' : List ℕ) → ClientIn → Outbound → Type 0
ReportsOf report held w w' Ended outbounds.Done = w' ≡ w ++ held ++ report
ReportsOf report held w w' PeerFault outbounds.Done = w' ≡ w ++ held ++ report
ReportsOf report held w w' (Offended o) outbounds.Done = w' ≡ w ++ held ++ report
ReportsOf report held w w' inbound outbound = GrowsByPrefix w w' (held ++ report)

-- ---- what is written to the peer

-- whether an Ack was read, where a stream was read to its end
abbrev pub IsAckOf : Sending → (bytes : List ℕ) → ClientIn → Ack → Type 0
IsAckOf x bytes ReadFault ack = ⊤
IsAckOf x bytes Memory ack = ⊤
IsAckOf x bytes inbound ack = ack ≡ ack_along Awaited (handled_of x bytes)

-- The writing ended at what was due behind the envelopes of the first documents, as many as were
-- sent. Of the opening, these envelopes and what was due next the first bytes are written: at most
-- one envelope more than were sent. Where the sink holds nothing back, the opening and the
-- envelopes that were sent are written whole, and of what was due next the first bytes, or none.
pub record WritesFirst (x : Sending) (via : List ℕ) (first : SinkView) (w w' : List ℕ) (sent : ℕ)
    : Type 0 where
  pub done : List (List Item)
  pub rest : List (List Item)
  pub joined : x.documents ≡ done ++ rest
  pub counted : sent ≡ length done
  pub bytes : List ℕ
  pub table : StringTable
  pub spelled : envelopes x done ≡ Ok (bytes, table)
  pub within : GrowsByPrefix w w'
      (first.held ++ (opening_bytes x.mode x.encoding via ++ (bytes ++ due_next x table rest)))
  pub grown : HoldsNothing first
      → GrowsByPrefix (w ++ first.held ++ (opening_bytes x.mode x.encoding via ++ bytes)) w'
      (due_next x table rest)

-- first bytes of the opening are written, and no envelope was sent
abbrev pub WritesNone : Sending → (via : List ℕ) → (first : SinkView) → (w w' : List ℕ) → (sent : ℕ)
    → Type 0
WritesNone x via first w w' sent =
    (sent ≡ 0) × GrowsByPrefix w w' (first.held ++ opening_bytes x.mode x.encoding via)

-- What is written to the peer, behind what was held, by whether its Ack was read: the opening, and
-- behind the Ack all that is sent of the documents; or first bytes of that, with the envelopes that
-- were sent.
abbrev pub WritesCall : Sending → (via : List ℕ) → (first : SinkView) → (w w' : List ℕ) → Ack
    → ClientOut → (sent : ℕ) → Type 0
WritesCall x via first w w' Awaited out.Done sent =
    (sent ≡ 0) × (w' ≡ w ++ first.held ++ opening_bytes x.mode x.encoding via)
WritesCall x via first w w' Awaited (out.Unfit number fault) sent = ⊥
WritesCall x via first w w' Awaited outbound sent = WritesNone x via first w w' sent
WritesCall x via first w w' Read out.Done sent = (sent ≡ length x.documents)
    × ((all : Placed (List ℕ)) × (envelopes x x.documents ≡ Ok all))
    × (w' ≡ w ++ first.held ++ sent_by x via)
WritesCall x via first w w' Read (out.Unfit number fault) sent = (sent ≡ number)
    × ((unfit : UnfitAt) × (envelopes x x.documents ≡ Err unfit) × (number ≡ unfit.number)
    × (fault ≡ told unfit.why))
    × (w' ≡ w ++ first.held ++ sent_by x via)
WritesCall x via first w w' Read outbound sent =
    GrowsByPrefix w w' (first.held ++ sent_by x via)
    × (WritesNone x via first w w' sent ⊎ WritesFirst x via first w w' sent)

-- ---- both

module _ (x : Sending) (via : List ℕ) where
  -- the writing ended so at the opening
  abbrev pub BreaksOpening : Outbound → (sent : ℕ) → SinkView → SinkView → Type 0
  BreaksOpening outbound sent first now = (sent ≡ 0)
      × IsCut outbound (opening_bytes x.mode x.encoding via) first now

  -- what was put to a sink that was like the first, by whether the Ack was read, how the writing
  -- ended, and how many envelopes were put
  abbrev pub Sends : Ack → ClientOut → (sent : ℕ) → SinkView → SinkView → Type 0
  Sends Awaited out.Done sent first now = (sent ≡ 0)
      × Puts first now (opening_bytes x.mode x.encoding via) (Ok tt) × (now.held ≡ [])
  Sends Awaited (out.Unfit number fault) sent first now = ⊥
  Sends Awaited out.WriteFault sent first now =
      BreaksOpening outbounds.WriteFault sent first now
  Sends Awaited out.Memory sent first now = BreaksOpening outbounds.Memory sent first now
  Sends Read out.Done sent first now = HasSentAll x
      (opening_bytes x.mode x.encoding via) first sent now
  Sends Read (out.Unfit number fault) sent first now = HasSentFitting x
      (opening_bytes x.mode x.encoding via) first number fault sent now
  Sends Read out.WriteFault sent first now = BreaksOpening outbounds.WriteFault sent first now
      ⊎ HasBroken x (opening_bytes x.mode x.encoding via) first outbounds.WriteFault sent now
  Sends Read out.Memory sent first now = BreaksOpening outbounds.Memory sent first now
      ⊎ HasBroken x (opening_bytes x.mode x.encoding via) first outbounds.Memory sent now

  -- These events of the peer's stream were handled. Their lines were reported, and the last line,
  -- or the writing of the report ended at a part of it; the documents were sent where an Ack is
  -- among them.
  pub record HasCalled (sink sink' output output' : SinkView) (called : CallOutcome)
      (events : List StreamEvent) : Type 0 where
    pub inbound_is : called.inbound
        ≡ inbound_by (ending_of called.inbound) (reached_along (map event_for events))
    pub reported : Wrote (said_by Whole) called.report
        (closing_of (ending_of called.inbound) (reached_along (map event_for events))) output
        (map event_for events) (λ s. ⊤) output'
    pub sends : Sends
        (ack_along Awaited (map event_for events)) called.outbound called.sent sink sink'

  -- What is known of a call, by what is known of the events that were handled and by what is
  -- reported of all that the peer sends: how that is judged and what is written to the peer, where
  -- the source tells it; what was read, reported and sent, however that ended; and what the calls
  -- that failed by the outside left of the counts of source, sink and output.
  pub record CallsSo (Handled : List StreamEvent → Type 0)
      (Reports : (bytes w w' : List ℕ) → Type 0) (i i' : Input) (sink sink' output output' : SinkView)
      (called : CallOutcome) : Type 0 where
    pub exchanged : Exchanged (stream (answers_to x)) (λ bytes. Judges x bytes called.inbound)
        (λ bytes w w'. (ack : Ack) × IsAckOf x bytes called.inbound ack
        × WritesCall x via sink w w' ack called.outbound called.sent) Handled
        (ending_of called.inbound) (called.inbound ≡ ReadFault) (called.outbound ≡ out.WriteFault)
        i i' sink sink'
    pub reported : WritesOf Reports i output output'
    pub reports_counted : CountsFaults output.faults output'.faults
        (called.report ≡ outbounds.WriteFault)

  -- of a call whose report is that of the peer's stream
  abbrev pub KnownCall : (i i' : Input) → (sink sink' output output' : SinkView) → CallOutcome
      → Type 0
  KnownCall i i' sink sink' output output' called =
      CallsSo (HasCalled sink sink' output output' called) (λ bytes w w'.
      ReportsOf (dumped x bytes) output.held w w' called.inbound called.report) i i' sink sink'
      output output' called
