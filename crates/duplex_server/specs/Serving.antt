-- What was read and written where a connection is served, however that ends.
use Rattle.std.specs.Prelude.{◌≡◌, ℕ, List, [], ◌++◌, map, Some, None, Option, ⊤}
use Rattle.io_edges.specs.Flow.{GrowsByPrefix}
use Rattle.{unit_streams.specs.Judging.offence, nbfx_values.specs.declared.refusals.Offence.Offence}
use Rattle.stream_reader.specs.Stream.{stream, StreamEvent}
use Rattle.stream_loop.specs.declared.{following.FollowEnding.FollowEnding}
use Rattle.stream_loop.specs.declared.{outbound.Outbound.Outbound}
use Rattle.stream_loop.specs.{Edges.Input, Exchanged.Exchanged, Writing.Wrote}
use Rattle.receiver_machine.specs.Owed.{closing_bytes}
use Rattle.duplex_server.specs.declared.outcome.Inbound.{Inbound, TheVariants.ReadFault}
use Rattle.duplex_server.specs.declared.outcome.Inbound.TheVariants.{Ended, Memory, Offended}
use Rattle.duplex_server.specs.{declared.outcome.Outcome.Outcome, Requests.request_for}
use Rattle.duplex_server.specs.ServerStream.{Answering, messages_along, owed, replies, requests_to}
use Rattle.io_edges.specs.Views.{SinkView}
use Rattle.stream_loop.specs.declared.following.FollowEnding.TheVariants as endings
use Rattle.stream_loop.specs.declared.outbound.Outbound.TheVariants as outbounds

-- how the reading of a connection ended
abbrev pub inbound_of : FollowEnding Offence → Inbound
inbound_of (endings.Judged None) = Ended
inbound_of (endings.Judged (Some offence)) = Offended offence
inbound_of endings.ReadFault = ReadFault
inbound_of endings.Memory = Memory

abbrev pub ending_of : Inbound → FollowEnding Offence
ending_of Ended = endings.Judged None
ending_of (Offended offence) = endings.Judged (Some offence)
ending_of ReadFault = endings.ReadFault
ending_of Memory = endings.Memory

-- what is owed last: a session that isn't judged has no end
abbrev pub closing_of : FollowEnding Offence → List ℕ
closing_of (endings.Judged refusal) = closing_bytes refusal
closing_of endings.ReadFault = []
closing_of endings.Memory = []

-- a session that was read to its end is judged as its bytes are
abbrev pub Judges : Answering → (endpoint : Option (List ℕ)) → (bytes : List ℕ) → Inbound → Type 0
Judges x endpoint bytes Ended = offence (stream (requests_to x endpoint)) bytes ≡ None
Judges x endpoint bytes (Offended o) = offence (stream (requests_to x endpoint)) bytes ≡ Some o
Judges x endpoint bytes ReadFault = ⊤
Judges x endpoint bytes Memory = ⊤

-- What is written of a stream, behind what was held: what is owed for it, where it was read to its
-- end and nothing has ended the writing; else first bytes of that.
abbrev pub WritesOwed : (owed held w w' : List ℕ) → Inbound → Outbound → Type 0
WritesOwed owed held w w' Ended outbounds.Done = w' ≡ w ++ held ++ owed
WritesOwed owed held w w' (Offended o) outbounds.Done = w' ≡ w ++ held ++ owed
WritesOwed owed held w w' inbound outbound = GrowsByPrefix w w' (held ++ owed)

module _ (x : Answering) where
  -- The events of these requests were answered from when the sink was like the first, and it is
  -- like this now: all that is owed for them was written, and what is owed last, or the writing
  -- ended at what was due behind the first of the requests. The outcome counts the documents, and
  -- all answers to these requests. Where the sink holds nothing back, what is due for these is
  -- written whole, and of what was due next the first bytes, or none: so the answers that count are
  -- written, and at most one more, whole or in part.
  pub record HasServed (outcome : Outcome) (first now : SinkView) (events : List StreamEvent)
      : Type 0 where
    pub counted : outcome.messages ≡ messages_along 0 (map request_for events)
    pub wrote : Wrote (replies x) outcome.outbound (closing_of (ending_of outcome.inbound)) first
        (map request_for events) (λ s. outcome.answers ≡ s.answers) now

-- to the Via that is served alone, or to any
module _ (x : Answering) (endpoint : Option (List ℕ)) where
  -- A session was answered, by what is known of the events that were: of all that the source gives,
  -- where it tells that, how it is judged and what is written of it; what was read; and what the
  -- calls that failed by the outside left of the counts of the source and of the sink.
  abbrev pub IsAnswered : (Handled : List StreamEvent → Type 0) → Inbound → Outbound
      → (i i' : Input) → (first now : SinkView) → Type 0
  IsAnswered Handled inbound outbound i i' first now =
      Exchanged (stream (requests_to x endpoint)) (λ bytes. Judges x endpoint bytes inbound)
      (λ bytes w w'. WritesOwed (owed x endpoint bytes) first.held w w' inbound outbound) Handled
      (ending_of inbound) (inbound ≡ ReadFault) (outbound ≡ outbounds.WriteFault) i i' first now

  -- a connection was served: its documents and answers are counted, and what was put is known
  abbrev pub Serves : (i i' : Input) → (first now : SinkView) → Outcome → Type 0
  Serves i i' first now outcome =
      IsAnswered (HasServed x outcome first now) outcome.inbound outcome.outbound i i' first now
