-- What is known of a call where the peer's bytes are known.
use Rattle.std.proofs.Common.{◌≡◌, ℕ, List, [], ◌++◌, map, Some, None, Option, sym, refl, ap}
use Rattle.std.{proofs.Common.◌∙◌, proofs.Common.subst, proofs.Common.append-nil, specs.Prelude.⊤}
use Rattle.{io_edges.specs.Faults.CountsFaults, unit_streams.specs.Grammar.Grammar}
use Rattle.nbfx_values.specs.declared.refusals.Offence.{Offence}
use Rattle.unit_streams.specs.Tellers.{report as report_by, state_behind, told_along}
use Rattle.stream_reader.specs.Stream.{Situation, stream, StreamEvent, StreamUnit}
use Rattle.stream_loop.proofs.Amounts.{first_told, states_values, whole_told, wrote_grew}
use Rattle.stream_loop.proofs.Grown.{all_written, AllWritten, Grew, grew_more}
use Rattle.stream_loop.proofs.Knowing.{events_are, first_broken, first_starved, offence_of}
use Rattle.stream_loop.{proofs.Knowing.whole_of, specs.Writing.Wrote}
use Rattle.stream_loop.specs.{declared.outbound.Outbound.Outbound, Answers.written_by, Edges.Input}
use Rattle.stream_loop.specs.Followed.{AreFirst, Follows, IsWhole}
use Rattle.session_report.{proofs.Saying.lines_are, specs.declared.reporter.Outcome.Outcome}
use Rattle.session_report.specs.Report.{last_line, lines_of, outcome}
use Rattle.session_report.specs.Saying.{event_for, said_by}
use Rattle.command_words.specs.declared.task.Detail.TheVariants.{Whole}
use Rattle.client.specs.Called.{Ack, Awaited}
use Rattle.client.specs.{declared.outcome.CallOutcome.CallOutcome, Sent.Sending}
use Rattle.client.specs.declared.outcome.ClientIn.{ClientIn, TheVariants.ReadFault}
use Rattle.client.specs.declared.outcome.ClientIn.TheVariants.{Ended, Memory, Offended, PeerFault}
use Rattle.client.specs.Called.{ack_along, answers_to, dumped, ending_of, HasCalled}
use Rattle.client.specs.Called.{handled_of, inbound_by, IsAckOf, Judges, KnownCall, reached_along}
use Rattle.client.{specs.Called.ReportsOf, specs.Called.WritesCall, proofs.Amounts.sends_written}
use Rattle.io_edges.specs.Views.{SinkView}
use Rattle.stream_loop.specs.declared.outbound.Outbound.TheVariants as outbounds
use Rattle.client.specs.declared.outcome.ClientOut.TheVariants as out
use Rattle.session_report.specs.declared.reporter.Outcome.TheVariants as reached

-- which event ended a session, by what is said of its reading
ended_well : (r : Outcome) → Ended ≡ inbound_by (ending_of Ended) r → r ≡ reached.Faulted → ⊥
ended_well reached.Open is faulted = cc
ended_well reached.Ended is faulted = cc
ended_well reached.Faulted is faulted = cc

ended_by_peer : (r : Outcome) → PeerFault ≡ inbound_by (ending_of PeerFault) r → r ≡ reached.Faulted
ended_by_peer reached.Open is = cc
ended_by_peer reached.Ended is = cc
ended_by_peer reached.Faulted is = refl

module _ (x : Sending) (via : List ℕ) (i i' : Input) (sink sink' : SinkView)
    (output output' : SinkView) (bytes : List ℕ) (left : i.left ≡ Some bytes) where
  abbrev y : Grammar Situation StreamUnit StreamEvent Offence
  y = stream (answers_to x)

  abbrev Called : CallOutcome → List StreamEvent → Type 0
  Called = HasCalled x via sink sink' output output'

  abbrev FollowsBy : CallOutcome → ClientIn → Type 0
  FollowsBy called inbound = Follows y (Called called) i i' (ending_of inbound)

  -- how the session ended by all events
  outcome_is : (es : List StreamEvent) (judged : Option Offence) → IsWhole y es judged bytes
      → outcome Whole (answers_to x) bytes ≡ reached_along (map event_for es)
  outcome_is es judged whole =
      ap (state_behind (lines_of Whole) reached.Open) (events_are y es judged bytes whole)
      ∙ ap (λ t. state_behind t reached.Open es) (sym (lines_are Whole))
      ∙ states_values event_for (said_by Whole) es reached.Open

  judges : (called : CallOutcome) → FollowsBy called called.inbound
      → Judges x bytes called.inbound
  judges called h = by called.inbound refl h where
    by : (inbound : ClientIn) → called.inbound ≡ inbound → FollowsBy called inbound
        → Judges x bytes inbound
    by Ended is d =
        let whole = whole_of y i i' bytes left (Called called) None d in
        let r = reached_along (map event_for d.events) in (
          offence_of y d.events None bytes whole,
          λ faulted. ended_well r (rw is at d.handled.inbound_is)
              (sym (outcome_is d.events None whole) ∙ faulted),
        )
    by PeerFault is d =
        let whole = whole_of y i i' bytes left (Called called) None d in
        let r = reached_along (map event_for d.events) in (
          offence_of y d.events None bytes whole,
          outcome_is d.events None whole ∙ ended_by_peer r (rw is at d.handled.inbound_is),
        )
    by (Offended o) is d =
        offence_of y d.events (Some o) bytes (whole_of y i i' bytes left (Called called) (Some o) d)
    by ReadFault is d = tt
    by Memory is d = tt

  -- ---- the report

  abbrev told : List StreamEvent → List ℕ
  told es = told_along (said_by Whole) reached.Open (map event_for es)

  dumped_by : dumped x bytes ≡ report_by y (written_by event_for (said_by Whole)) bytes
  dumped_by = ap (λ t. report_by y t bytes) (sym (lines_are Whole))

  dumped_is : (es : List StreamEvent) (judged : Option Offence) → IsWhole y es judged bytes
      → dumped x bytes ≡ told es ++ last_line (reached_along (map event_for es)) judged
  dumped_is es judged whole =
      dumped_by ∙ whole_told y event_for (said_by Whole) es judged bytes whole
      ∙ ap (λ r. told es ++ last_line r judged)
      (states_values event_for (said_by Whole) es reached.Open)

  abbrev Grew' : List ℕ → Type 0
  Grew' = Grew output output'

  abbrev All' : List ℕ → Type 0
  All' = AllWritten output output'

  abbrev Wrote' : Outbound → List ℕ → List StreamEvent → Type 0
  Wrote' report closing es = Wrote (said_by Whole) report closing
      output (map event_for es) (λ s. ⊤) output'

  abbrev Reports' : ClientIn → Outbound → Type 0
  Reports' inbound report = (w : List ℕ) → output.written ≡ Some w → (w' : List ℕ)
      × (output'.written ≡ Some w')
      × ReportsOf (dumped x bytes) output.held w w' inbound report

  grew_dumped : (report : Outbound) (closing : List ℕ) (es : List StreamEvent) (behind : List ℕ)
      → dumped x bytes ≡ (told es ++ closing) ++ behind → Wrote' report closing es
      → Grew' (dumped x bytes)
  grew_dumped report closing es behind is wrote =
      subst Grew' (sym is) (grew_more output output'
      (told es ++ closing) behind (wrote_grew (said_by Whole)
      report closing output (map event_for es) (λ s. ⊤) output' wrote))

  -- a stream that was read to its end
  reports_judged : (inbound : ClientIn) → (All' (dumped x bytes) → Reports' inbound outbounds.Done)
      → (Grew' (dumped x bytes) → Reports' inbound outbounds.WriteFault)
      → (Grew' (dumped x bytes) → Reports' inbound outbounds.Memory)
      → (report : Outbound) (closing : List ℕ) (es : List StreamEvent)
      → dumped x bytes ≡ told es ++ closing → Wrote' report closing es → Reports' inbound report
  reports_judged inbound wholly failed starved outbounds.Done closing es is wrote =
      wholly (subst All' (sym is) (all_written output output'
      (told es ++ closing) wrote.puts wrote.emptied))
  reports_judged inbound wholly failed starved outbounds.WriteFault closing es is wrote =
      failed (grew_dumped outbounds.WriteFault closing es []
      (is ∙ sym (append-nil (told es ++ closing))) wrote)
  reports_judged inbound wholly failed starved outbounds.Memory closing es is wrote =
      starved (grew_dumped outbounds.Memory closing es []
      (is ∙ sym (append-nil (told es ++ closing))) wrote)

  -- one that wasn't
  first_dumped : (report : Outbound) (es : List StreamEvent) → AreFirst y es bytes
      → Wrote' report [] es → Grew' (dumped x bytes)
  first_dumped report es front wrote =
      let t = first_told y event_for (said_by Whole) es bytes front in
      grew_dumped report [] es t.0
      (dumped_by ∙ t.1 ∙ ap (λ l. l ++ t.0) (sym (append-nil (told es)))) wrote

  reports : (called : CallOutcome) → FollowsBy called called.inbound
      → Reports' called.inbound called.report
  reports called h = by called.inbound refl h where
    by : (inbound : ClientIn) → called.inbound ≡ inbound → FollowsBy called inbound
        → Reports' inbound called.report
    by Ended is d =
        reports_judged Ended (λ all. all) (λ grew. grew) (λ grew. grew) called.report _ d.events
        (dumped_is d.events None (whole_of y i i' bytes left (Called called) None d))
        (rw is at d.handled.reported)
    by PeerFault is d =
        reports_judged PeerFault (λ all. all) (λ grew. grew) (λ grew. grew) called.report _ d.events
        (dumped_is d.events None (whole_of y i i' bytes left (Called called) None d))
        (rw is at d.handled.reported)
    by (Offended o) is d =
        reports_judged (Offended o) (λ all. all) (λ grew. grew) (λ grew. grew) called.report _
        d.events (dumped_is d.events (Some o) (whole_of y i i' bytes left (Called called) (Some o)
        d)) (rw is at d.handled.reported)
    by ReadFault is d =
        first_dumped called.report _ (first_broken y i i' bytes left (Called called) d)
        (rw is at d.handled.reported)
    by Memory is d =
        first_dumped called.report d.events (first_starved y i i' bytes left (Called called) d)
        (rw is at d.handled.reported)

  -- ---- what is written to the peer

  ack_is : (es : List StreamEvent) (judged : Option Offence) → IsWhole y es judged bytes
      → ack_along Awaited (map event_for es) ≡ ack_along Awaited (handled_of x bytes)
  ack_is es judged whole =
      ap (λ (l : List StreamEvent). ack_along Awaited (map event_for l))
      (sym (events_are y es judged bytes whole))

  writes : (called : CallOutcome) → FollowsBy called called.inbound → (w : List ℕ)
      → sink.written ≡ Some w → (w' : List ℕ) × (sink'.written ≡ Some w') × (ack : Ack)
      × IsAckOf x bytes called.inbound ack
      × WritesCall x via sink w w' ack called.outbound called.sent
  writes called h w told_w = by called.inbound refl h where
    so : (inbound : ClientIn) (es : List StreamEvent) → Called called es
        → IsAckOf x bytes inbound (ack_along Awaited (map event_for es))
        → (w' : List ℕ) × (sink'.written ≡ Some w') × (ack : Ack)
        × IsAckOf x bytes inbound ack
        × WritesCall x via sink w w' ack called.outbound called.sent
    so inbound es c acked =
        let k = sends_written x via sink sink'
        (ack_along Awaited (map event_for es)) called.outbound called.sent c.sends w told_w in
        (k.0, k.1, ack_along Awaited (map event_for es), acked, k.2)

    by : (inbound : ClientIn) → called.inbound ≡ inbound → FollowsBy called inbound
        → (w' : List ℕ) × (sink'.written ≡ Some w') × (ack : Ack)
        × IsAckOf x bytes inbound ack
        × WritesCall x via sink w w' ack called.outbound called.sent
    by Ended is d = so Ended d.events d.handled
        (ack_is d.events None (whole_of y i i' bytes left (Called called) None d))
    by PeerFault is d = so PeerFault d.events d.handled
        (ack_is d.events None (whole_of y i i' bytes left (Called called) None d))
    by (Offended o) is d = so (Offended o) d.events d.handled
        (ack_is d.events (Some o) (whole_of y i i' bytes left (Called called) (Some o) d))
    by ReadFault is d = so ReadFault _ d.handled tt
    by Memory is d = so Memory d.events d.handled tt

-- all that is known of a call, by what was read, reported and sent, and what failed
pub knows : (x : Sending) (via : List ℕ) (i i' : Input) (sink sink' output output' : SinkView)
    (called : CallOutcome) → Follows (stream (answers_to x))
    (HasCalled x via sink sink' output output' called) i i' (ending_of called.inbound)
    → CountsFaults i.faults i'.faults (called.inbound ≡ ReadFault)
    → CountsFaults sink.faults sink'.faults (called.outbound ≡ out.WriteFault)
    → CountsFaults output.faults output'.faults (called.report ≡ outbounds.WriteFault)
    → KnownCall x via i i' sink sink' output output' called
knows x via i i' sink sink' output output' called follows reads writing reporting = record {
  exchanged = record {
    judged = λ bytes left. judges x via i i' sink sink' output output' bytes left called follows;
    written = λ bytes w left told.
        let k = writes x via i i' sink sink' output output' bytes left called follows w told in
        (k.0, k.1, (k.2, k.3, k.4));
    follows = follows;
    reads_counted = reads;
    writes_counted = writing;
  };
  reported = λ bytes w left told.
      reports x via i i' sink sink' output output' bytes left called follows w told;
  reports_counted = reporting;
}
