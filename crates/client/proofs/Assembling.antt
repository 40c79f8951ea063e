-- What is known of a peer that was called, with the line behind the report.
use Rattle.std.proofs.Common.{◌≡◌, ℕ, List, [], map}
use Rattle.{io_edges.specs.Flow.Told, session_report.specs.Saying.event_for}
use Rattle.stream_reader.specs.Stream.{stream, StreamEvent}
use Rattle.stream_loop.proofs.{Counts.handled_some, Taking.follows_as, Writing.known_told}
use Rattle.stream_loop.specs.{declared.outbound.Outbound.Outbound, Edges.Input}
use Rattle.client.specs.Called.{Awaited}
use Rattle.client.specs.{declared.outcome.CallOutcome.CallOutcome, Sending.Finishes, Sent.Sending}
use Rattle.client.specs.Called.{ack_along, answers_to, closing_of, dumped, ending_of, HasCalled}
use Rattle.client.specs.Called.{KnownCall, reached_along, WritesCall}
use Rattle.client.specs.Peers.{CallsPeer, line_after, WritesReport}
use Rattle.client.proofs.Amounts.{sends_written}
use Rattle.client.proofs.Reporting.{dumps, emptied_by, reports, reports_counted}
use Rattle.io_edges.specs.Views.{SinkView}
use Rattle.stream_loop.specs.declared.outbound.Outbound.TheVariants as outbounds

module _ (x : Sending) (via line : List ℕ) (i i' : Input)
    (sink sink' output mid output' : SinkView) (called : CallOutcome) (report : Outbound)
    (c : KnownCall x via i i' sink sink' output mid called)
    (f : Finishes (line_after called.inbound line) called.report report mid output') where
  abbrev Called : List StreamEvent → Type 0
  Called = HasCalled x via sink sink' output mid called

  -- the outcome, with what became of the line
  abbrev outcome : CallOutcome
  outcome = record {
    sent = called.sent;
    inbound = called.inbound;
    outbound = called.outbound;
    report = report;
  }

  abbrev WritesTo : List StreamEvent → List ℕ → List ℕ → Type 0
  WritesTo events w w' = WritesCall x via sink w w'
      (ack_along Awaited (map event_for events)) called.outbound called.sent

  handled : (events : List StreamEvent) → Called events
      → Told sink.written sink'.written (WritesTo events)
      × Told output.written output'.written
      (WritesReport line output.held events called.inbound report)
  handled events h = (
    known_told (WritesTo events) sink.written sink'.written
        (sends_written x via sink sink' (ack_along Awaited (map event_for events))
        called.outbound called.sent h.sends),
    reports output mid output' line called.inbound events called.report report h.reported f,
  )

  emptied : called.report ≡ outbounds.Done → mid.held ≡ []
  emptied =
      let h = handled_some (stream (answers_to x)) Called i i' (ending_of called.inbound)
      c.exchanged.follows in
      emptied_by output mid output'
      (closing_of (ending_of called.inbound) (reached_along (map event_for h.0))) called.report
      (map event_for h.0) h.1.reported

  pub peer_called : CallsPeer x via line i i' sink sink' output output' outcome
  peer_called = record {
    exchanged = record {
      judged = c.exchanged.judged;
      written = c.exchanged.written;
      follows = follows_as (stream (answers_to x)) Called (λ events.
          Told sink.written sink'.written (WritesTo events)
          × Told output.written output'.written
          (WritesReport line output.held events called.inbound report)) i i'
          (ending_of called.inbound) handled c.exchanged.follows;
      reads_counted = c.exchanged.reads_counted;
      writes_counted = c.exchanged.writes_counted;
    };
    reported = λ bytes w left told.
        let r = c.reported bytes w left told in
        dumps output mid output' line (dumped x bytes) w r.0 r.1
        called.report report emptied called.inbound r.2 f;
    reports_counted = reports_counted output mid output'
        (line_after called.inbound line) called.report report c.reports_counted f;
  }
