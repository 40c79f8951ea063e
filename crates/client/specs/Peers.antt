-- What was read, sent and reported where a peer was called over a connection, however that ended.
-- Sink and output may have held bytes before, which are written before what is put.
use Rattle.std.specs.Prelude.{◌≡◌, ℕ, List, [], ◌++◌, map, ⊤}
use Rattle.io_edges.specs.{Flow.GrowsByPrefix, Flow.Told}
use Rattle.unit_streams.specs.Tellers.{told_along}
use Rattle.stream_reader.specs.Stream.{StreamEvent}
use Rattle.stream_loop.specs.{declared.outbound.Outbound.Outbound, Edges.Input}
use Rattle.session_report.specs.Saying.{event_for, said_by}
use Rattle.command_words.specs.declared.task.Detail.TheVariants.{Whole}
use Rattle.client.specs.declared.outcome.{CallOutcome.CallOutcome, ClientIn.ClientIn}
use Rattle.client.specs.declared.outcome.ClientIn.TheVariants.{Memory, ReadFault}
use Rattle.client.specs.Called.{ack_along, Awaited, CallsSo, closing_of, dumped, ending_of}
use Rattle.client.specs.{Called.reached_along, Called.WritesCall, Sent.Sending}
use Rattle.io_edges.specs.Views.{SinkView}
use Rattle.stream_loop.specs.declared.outbound.Outbound.TheVariants as outbounds
use Rattle.session_report.specs.declared.reporter.Outcome.TheVariants as reached

-- the line of what was sent, which comes behind the report where there was memory to read on
abbrev pub line_after : ClientIn → (line : List ℕ) → List ℕ
line_after Memory line = []
line_after inbound line = line

-- what is reported of events, and at last
abbrev pub report_of : List StreamEvent → ClientIn → List ℕ
report_of events inbound =
    told_along (said_by Whole) reached.Open (map event_for events)
    ++ closing_of (ending_of inbound) (reached_along (map event_for events))

-- that and the line is written, behind what was held; or, where the writing ended before, first
-- bytes of it
abbrev pub WritesReport : (line held : List ℕ) → List StreamEvent → ClientIn → Outbound
    → (w w' : List ℕ) → Type 0
WritesReport line held events inbound outbounds.Done w w' =
    w' ≡ w ++ held ++ (report_of events inbound ++ line_after inbound line)
WritesReport line held events inbound report w w' =
    GrowsByPrefix w w' (held ++ (report_of events inbound ++ line_after inbound line))

-- The same of a stream that was read to its end, by the report of all its bytes. Where a read
-- failed, what is known is known of the bytes that were read.
abbrev pub WritesDump : (dump line held : List ℕ) → ClientIn → Outbound → (w w' : List ℕ) → Type 0
WritesDump dump line held ReadFault report w w' = ⊤
WritesDump dump line held Memory report w w' = GrowsByPrefix w w' (held ++ dump)
WritesDump dump line held inbound outbounds.Done w w' = w' ≡ w ++ held ++ (dump ++ line)
WritesDump dump line held inbound report w w' = GrowsByPrefix w w' (held ++ (dump ++ line))

-- What is known of a peer that was called with documents, where this is the line of what was sent:
-- of the events that were handled, what is written to the peer and what is reported of them; and of
-- all that the peer sends, its report and the line.
abbrev pub CallsPeer : Sending → (via line : List ℕ) → (i i' : Input) → (k k' o o' : SinkView)
    → CallOutcome → Type 0
CallsPeer x via line i i' k k' o o' called = CallsSo x via (λ events.
    Told k.written k'.written (λ w w'. WritesCall x via k w w'
    (ack_along Awaited (map event_for events)) called.outbound called.sent)
    × Told o.written o'.written
    (WritesReport line o.held events called.inbound called.report))
    (λ bytes w w'. WritesDump (dumped x bytes) line o.held called.inbound called.report w w') i i' k
    k' o o' called
