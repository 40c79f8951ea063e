-- The status of a call in which nothing of the outside fails, by what the peer sends
-- (specs/Complete).
use Rattle.std.proofs.Common.{◌≡◌, ℕ, Bool, true, false, ◌||◌, ◌⊎◌, List, [], ◌∷◌, length, eqb-true}
use Rattle.std.proofs.Common.{if◌then◌else◌, ◌==◌, Some, None, Option, sym, refl, ap, ◌∙◌, inl, inr}
use Rattle.io_edges.specs.{Faults.Rose, Flow.Told, Wires.Fresh, Wires.Network}
use Rattle.nbfx_values.specs.declared.{content.Item.Item, session.Mode.Mode}
use Rattle.nbfx_values.specs.declared.refusals.Reason.{Reason, TheVariants.SessionTooLong}
use Rattle.nbfx_values.specs.declared.session.Mode.TheVariants.{Duplex, Simplex, Singleton}
use Rattle.stream_loop.specs.{declared.outbound.Outbound.Outbound, Edges.Input}
use Rattle.session_report.specs.{declared.reporter.Outcome.Outcome, Report.outcome}
use Rattle.session_report.specs.declared.reporter.Outcome.TheVariants.{Ended, Faulted, Open}
use Rattle.command_words.specs.declared.task.Detail.TheVariants.{Whole}
use Rattle.session_ends.specs.Sent.{MayBeSent}
use Rattle.client.specs.declared.called.Called.{Called, TheVariants.WrongCount}
use Rattle.client.specs.declared.called.Called.TheVariants.{Closed, Starved, Unconnected}
use Rattle.client.specs.Called.{Ack, Awaited, Read}
use Rattle.client.specs.declared.outcome.{CallOutcome.CallOutcome, ClientIn.ClientIn}
use Rattle.client.specs.{declared.outcome.ClientOut.ClientOut, Called.WritesCall}
use Rattle.client.specs.Called.{ack_along, answers_to, handled_of, IsAckOf, Judges as JudgesPeer}
use Rattle.client.specs.{Sent.envelopes, Sent.Sending, Statuses.wants_memory}
use Rattle.client.specs.Places.{CallsOne, CallsPlace}
use Rattle.client.specs.Statuses.{fails, fails_in, fails_out, fails_report, inbound_status}
use Rattle.client.specs.Statuses.{is_starved_in, is_starved_out, is_starved_report, is_unfit}
use Rattle.client.specs.Statuses.{outcome_status, reason_status, status_of as status_of_called}
use Rattle.dump_replay.specs.Complete.{AnswersCall, status_of_call, status_of_report, unless_unfit}
use Rattle.dump_replay.specs.{Complete.with_count, Running.is_session_too_long, Running.status_of}
use Rattle.dump_replay.proofs.{CallEnds.one_rose, CompleteFiles.as_other, CompleteFiles.IsOr}
use Rattle.io_edges.specs.Views.{SinkView}
use Rattle.stream_loop.specs.declared.outbound.Outbound.TheVariants as outbounds
use Rattle.client.specs.declared.outcome.ClientIn.TheVariants as heard
use Rattle.client.specs.declared.outcome.ClientOut.TheVariants as out

-- ---- a call

both_false : (a b : Bool) → (a || b) ≡ false → (a ≡ false) × (b ≡ false)
both_false true b is = cc
both_false false b is = (refl, is)

neither : (a b : Bool) → a ≡ false → b ≡ false → (a || b) ≡ false
neither true b first second = first
neither false b first second = second

or_true : (a : Bool) → (a || true) ≡ true
or_true true = refl
or_true false = refl

-- the first that holds, where nothing fails
first_status : (wants fails unfit reports : Bool) (n : ℕ) → fails ≡ false → reports ≡ false
    → ((wants ≡ false) × ((if wants then 5 else if fails then 8 else if unfit then 7
    else if reports then 4 else n) ≡ (if unfit then 7 else n)))
    ⊎ ((if wants then 5 else if fails then 8 else if unfit then 7 else if reports then 4
    else n) ≡ 5)
first_status true fails unfit reports n fails_not reports_not = inr refl
first_status false true unfit reports n fails_not reports_not = cc
first_status false false true reports n fails_not reports_not = inl (refl, refl)
first_status false false false true n fails_not reports_not = cc
first_status false false false false n fails_not reports_not = inl (refl, refl)

in_well : (v : ClientIn) → (v ≡ heard.ReadFault → ⊥) → fails_in v ≡ false
in_well heard.Ended well = refl
in_well (heard.Offended o) well = refl
in_well heard.PeerFault well = refl
in_well heard.ReadFault well = absurd (well refl)
in_well heard.Memory well = refl

out_well : (v : ClientOut) → (v ≡ out.WriteFault → ⊥) → fails_out v ≡ false
out_well out.Done well = refl
out_well (out.Unfit number fault) well = refl
out_well out.WriteFault well = absurd (well refl)
out_well out.Memory well = refl

report_well : (v : Outbound) → (v ≡ outbounds.WriteFault → ⊥) → fails_report v ≡ false
report_well outbounds.Done well = refl
report_well outbounds.WriteFault well = absurd (well refl)
report_well outbounds.Memory well = refl

reason_same : (r : Reason) → reason_status r ≡ (if is_session_too_long r then 10 else 1)
reason_same SessionTooLong = refl
reason_same _ = refl

closing_same : (o : Outcome) → (o ≡ Faulted → ⊥) → 0 ≡ status_of None o
closing_same Open not = refl
closing_same Ended not = refl
closing_same Faulted not = absurd (not refl)

module _ (x : Sending) (peer : List ℕ) where
  -- by what the peer sends
  heard_status : (v : ClientIn) → is_starved_in v ≡ false → (v ≡ heard.ReadFault → ⊥)
      → JudgesPeer x peer v → inbound_status v ≡ status_of_report Whole (answers_to x) peer
  heard_status heard.Ended fed well judges =
      closing_same (outcome Whole (answers_to x) peer) judges.1
      ∙ ap (λ v. status_of v (outcome Whole (answers_to x) peer)) (sym judges.0)
  heard_status (heard.Offended o) fed well judges =
      reason_same o.reason
      ∙ ap (λ v. status_of v (outcome Whole (answers_to x) peer)) (sym judges)
  heard_status heard.PeerFault fed well judges =
      ap (status_of None) (sym judges.1)
      ∙ ap (λ v. status_of v (outcome Whole (answers_to x) peer)) (sym judges.0)
  heard_status heard.ReadFault fed well judges = absurd (well refl)
  heard_status heard.Memory fed well judges = cc

  heard_ack : (v : ClientIn) → is_starved_in v ≡ false → (v ≡ heard.ReadFault → ⊥)
      → (ack : Ack) → IsAckOf x peer v ack → ack ≡ ack_along Awaited (handled_of x peer)
  heard_ack heard.Ended fed well ack is = is
  heard_ack (heard.Offended o) fed well ack is = is
  heard_ack heard.PeerFault fed well ack is = is
  heard_ack heard.ReadFault fed well ack is = absurd (well refl)
  heard_ack heard.Memory fed well ack is = cc

  -- by what is sent
  sent_status : (ack : Ack) (v : ClientOut) → is_starved_out v ≡ false → (v ≡ out.WriteFault → ⊥)
      → (via : List ℕ) (first : SinkView) (w w' : List ℕ) (sent : ℕ)
      → WritesCall x via first w w' ack v sent → (n : ℕ)
      → (if is_unfit v then 7 else n) ≡ unless_unfit ack (envelopes x x.documents) n
  sent_status Awaited out.Done fed well via first w w' sent writes n = refl
  sent_status Awaited (out.Unfit number fault) fed well via first w w' sent writes n =
      absurd writes
  sent_status Awaited out.WriteFault fed well via first w w' sent writes n =
      absurd (well refl)
  sent_status Awaited out.Memory fed well via first w w' sent writes n = cc
  sent_status Read out.Done fed well via first w w' sent writes n =
      sym (ap (λ v. unless_unfit Read v n) writes.1.1)
  sent_status Read (out.Unfit number fault) fed well via first w w' sent writes n =
      sym (ap (λ v. unless_unfit Read v n) writes.1.1)
  sent_status Read out.WriteFault fed well via first w w' sent writes n = absurd (well refl)
  sent_status Read out.Memory fed well via first w w' sent writes n = cc

  called_status : (o : CallOutcome) → (o.inbound ≡ heard.ReadFault → ⊥)
      → (o.outbound ≡ out.WriteFault → ⊥) → (o.report ≡ outbounds.WriteFault → ⊥)
      → JudgesPeer x peer o.inbound → (ack : Ack) → IsAckOf x peer o.inbound ack
      → (via : List ℕ) (first : SinkView) (w w' : List ℕ)
      → WritesCall x via first w w' ack o.outbound o.sent
      → IsOr (unless_unfit (ack_along Awaited (handled_of x peer)) (envelopes x x.documents)
      (status_of_report Whole (answers_to x) peer)) (outcome_status o)
  called_status o read written reported judges ack is via first w w' writes =
      elim (first_status (wants_memory o) (fails o) (is_unfit o.outbound) (fails_report o.report)
      (inbound_status o.inbound)
      (neither (fails_in o.inbound) (fails_out o.outbound) (in_well o.inbound read)
      (out_well o.outbound written)) (report_well o.report reported)) [
        | inl status ↦
            let both = both_false (is_starved_in o.inbound || is_starved_out o.outbound)
            (is_starved_report o.report) status.0 in
            let fed = both_false (is_starved_in o.inbound) (is_starved_out o.outbound) both.0 in
            inl (status.1
            ∙ ap (λ (n : ℕ). if is_unfit o.outbound then 7 else n)
            (heard_status o.inbound fed.0 read judges)
            ∙ sent_status ack o.outbound fed.1 written via first w w' o.sent writes
            (status_of_report Whole (answers_to x) peer)
            ∙ ap (λ (a : Ack). unless_unfit a (envelopes x x.documents)
            (status_of_report Whole (answers_to x) peer))
            (heard_ack o.inbound fed.0 read ack is))
        | inr five ↦ inr five
      ]

-- as many documents as one session takes
admitted : (mode : Mode) (sent : List (List Item)) (next : ℕ) → MayBeSent mode sent
    → next ≡ with_count mode sent next
admitted Duplex sent next may = refl
admitted Simplex sent next may = refl
admitted Singleton sent next may =
    sym (ap (λ (n : ℕ). if n == 1 then next else 6) may)

not_admitted : (mode : Mode) (sent : List (List Item)) (next : ℕ) → (MayBeSent mode sent → ⊥)
    → 6 ≡ with_count mode sent next
not_admitted Duplex sent next not = absurd (not tt)
not_admitted Simplex sent next not = absurd (not tt)
not_admitted Singleton sent next not = by (length sent == 1) refl where
  by : (one : Bool) → (length sent == 1) ≡ one → 6 ≡ (if one then next else 6)
  by true is = absurd (not (eqb-true (length sent) 1 is))
  by false is = refl

-- the connection that is handed out is the next
next_is : {X : Type 0} (before : Option (List X)) (after : Option (List X)) (one other : X)
    (more : List X) → before ≡ Some (other ∷ more)
    → Told before after (λ before after. before ≡ one ∷ after) → one ≡ other
next_is None after one other more is told = cc
next_is (Some l) None one other more is told = absurd told
next_is (Some l) (Some l') one other more is told = cc

-- and tells what is written to it
written_told : (closed : Option (List (List ℕ × List ℕ))) (told : List (List ℕ × List ℕ))
    (written : Option (List ℕ)) → closed ≡ Some told → Fresh closed written → written ≡ Some []
written_told None told written is fresh = cc
written_told (Some l) told written is fresh = fresh

module _ {R K : Type 0} (reader : R → Input) (to : K → SinkView) (x : Sending)
    (via : List ℕ) (line : ℕ → List ℕ) (n n' : Network R K) (o o' : SinkView) (peer : List ℕ)
    (written : Rose o.faults o'.faults → ⊥) (connected : Rose n.faults n'.faults → ⊥)
    (well : AnswersCall reader n n' peer) where
  -- no end of the connection failed
  ends_well : (outcome : CallOutcome) → CallsOne reader to x via line n n' o o' outcome
      → fails outcome ≡ true → ⊥
  ends_well outcome h failed = well.ends_well (one_rose reader to x via line n n' o o' outcome h
      failed)

  call_closed : (outcome : CallOutcome) → CallsOne reader to x via line n n' o o' outcome
      → IsOr (status_of_call x peer) (outcome_status outcome)
  call_closed outcome h =
      let same = next_is n.waiting n'.waiting h.ends well.ends well.more well.waiting h.handed in
      let left : (reader h.ends.0).left ≡ Some peer =
      ap (λ (ends : R × K). (reader ends.0).left) same ∙ well.sends in
      let told = written_told n.closed well.closed (to h.ends.1).written well.told
      h.begins.nothing_written in
      let s = h.calls.exchanged.written peer [] left told in
      as_other _ (status_of_call x peer) (outcome_status outcome)
      (admitted x.mode x.documents _ h.admitted)
      (called_status x peer outcome
      (λ fault. ends_well outcome h (ap (λ v. fails_in v || fails_out outcome.outbound) fault))
      (λ fault. ends_well outcome h (ap (λ v. fails_in outcome.inbound || fails_out v) fault
      ∙ or_true (fails_in outcome.inbound)))
      (λ fault. written (h.calls.reports_counted.rose fault))
      (h.calls.exchanged.judged peer left) s.2.0 s.2.1 via (to h.ends.1) [] s.0 s.2.2)

  pub call_placed : (called : Called) → CallsPlace reader to x via line n n' o o' called
      → IsOr (status_of_call x peer) (status_of_called called)
  call_placed WrongCount h = inl (not_admitted x.mode x.documents _ h.0)
  call_placed Starved h = inr refl
  call_placed Unconnected h = absurd (connected (h.counted.rose tt))
  call_placed (Closed outcome) h = call_closed outcome h
