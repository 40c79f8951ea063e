-- What is known of a call by which two lists are sent, when the peer's stream is over.
use Rattle.std.proofs.Common.{◌≡◌, ℕ, List, [], map, Ok, sym, refl, ap}
use Rattle.std.{proofs.Common.◌∙◌, proofs.Common.subst, proofs.Common.inl, specs.Prelude.⊤}
use Rattle.io_edges.specs.Faults.{CountsFaults}
use Rattle.nbfx_values.specs.declared.{refusals.Offence.Offence}
use Rattle.stream_reader.specs.Stream.{Settings, stream, StreamEvent}
use Rattle.stream_loop.proofs.Counts.{handled_some, writes_counted}
use Rattle.stream_loop.proofs.Taking.{follows_as}
use Rattle.stream_loop.specs.declared.{following.FollowEnding.FollowEnding, outbound.Outbound.Outbound}
use Rattle.stream_loop.specs.{Edges.Input, Followed.Follows}
use Rattle.stream_loop.specs.Writing.{Writes, Wrote}
use Rattle.io_edges.specs.{Puts.Puts, Views.SinkView}
use Rattle.initiator_machine.specs.Opening.{opening_bytes}
use Rattle.session_report.specs.declared.{reading.Event.Event, reporter.Outcome.Outcome}
use Rattle.session_report.specs.Saying.{event_for, said_by}
use Rattle.command_words.specs.declared.task.Detail.TheVariants.{Whole}
use Rattle.client.specs.Called.{Ack, Awaited, Read}
use Rattle.client.specs.declared.answers.Stage.{Stage, TheVariants.Acked, TheVariants.Opened}
use Rattle.client.specs.declared.outcome.{CallOutcome.CallOutcome}
use Rattle.client.specs.declared.outcome.ClientIn.{ClientIn, TheVariants.ReadFault}
use Rattle.client.specs.{Answering.HasTold, Answering.IsAt, Lanes.stage_after}
use Rattle.client.specs.Called.{ack_along, answers_to, closing_of, ending_of, HasCalled}
use Rattle.client.specs.Called.{inbound_by, KnownCall, reached_along, Sends}
use Rattle.client.specs.{Writing.out_of, Writing.WritesOut}
use Rattle.client.specs.Sent.{Sending, SendsAll}
use Rattle.client.proofs.{Answered.told_first, Answered.unread_so, Judged.knows}
use Rattle.unit_streams.specs.Going.{IsPending}
use Rattle.std.proofs.Common.{arith}
use Rattle.session_report.specs.declared.reporter.Outcome.TheVariants as outcomes
use Rattle.client.proofs.Ended.{ending_again, reads_counted, sends_counted, sends_read}
use Rattle.stream_loop.specs.declared.following.FollowEnding.TheVariants as endings
use Rattle.stream_loop.specs.declared.outbound.Outbound.TheVariants as outbounds

module _ (x : Sending) (via : List ℕ) where
  abbrev opening : List ℕ
  opening = opening_bytes x.mode x.encoding via

  -- nothing was sent behind the opening
  pub sends_none : (opened : Outbound) (first mid now : SinkView) (ack : Ack)
      → WritesOut opened opening first mid → now ≡ mid
      → (stage_after opened ≡ Opened → ack ≡ Awaited)
      → Sends x via ack (out_of opened) 0 first now
  sends_none outbounds.Done first mid now ack wrote same awaited =
      rw (same, awaited refl) (refl, wrote.0, wrote.1)
  sends_none outbounds.WriteFault first mid now Awaited wrote same awaited = rw same (refl, wrote)
  sends_none outbounds.WriteFault first mid now Read wrote same awaited =
      rw same (inl (refl, wrote))
  sends_none outbounds.Memory first mid now Awaited wrote same awaited = rw same (refl, wrote)
  sends_none outbounds.Memory first mid now Read wrote same awaited = rw same (inl (refl, wrote))

-- where the Ack was awaited, the opening is written
pub begun_at : (bytes : List ℕ) (opened : Outbound) (first mid now : SinkView)
    → WritesOut opened bytes first mid → stage_after opened ≡ Opened → now ≡ mid
    → Puts first now bytes (Ok tt) × (now.held ≡ [])
begun_at bytes outbounds.Done first mid now wrote at same = rw same wrote
begun_at bytes outbounds.WriteFault first mid now wrote at same = cc
begun_at bytes outbounds.Memory first mid now wrote at same = cc

pub opened_done : (opened : Outbound) → stage_after opened ≡ Opened → opened ≡ outbounds.Done
opened_done outbounds.Done at = refl
opened_done outbounds.WriteFault at = cc
opened_done outbounds.Memory at = cc

-- ---- a call in all

module _ (x : Sending) (via : List ℕ) (sink sink' output output1 output' : SinkView)
    (called : CallOutcome) (ending : FollowEnding Offence) (stage : Stage) (reached : Outcome)
    (report : Outbound)
    (closed : (first : SinkView) (events : List Event)
    → Writes (said_by Whole) report first events reached (λ s. ⊤) output1
    → Wrote (said_by Whole) called.report (closing_of ending reached) first events (λ s. ⊤)
    output')
    (inbound_is : called.inbound ≡ inbound_by ending reached)
    (sends : (events : List Event) → IsAt stage events
    → Sends x via (ack_along Awaited events) called.outbound called.sent sink sink') where
  ending_is : ending ≡ ending_of called.inbound
  ending_is = sym (ap ending_of inbound_is ∙ ending_again ending reached)

  abbrev Told' : List StreamEvent → Type 0
  Told' events = HasTold output (map event_for events) stage reached report output1

  abbrev Called : List StreamEvent → Type 0
  Called = HasCalled x via sink sink' output output' called

  abbrev Wrote' : FollowEnding Offence → Outcome → List StreamEvent → Type 0
  Wrote' e r events = Wrote (said_by Whole) called.report (closing_of e r) output
      (map event_for events) (λ s. ⊤) output'

  has_called : (events : List StreamEvent) → Told' events → Called events
  has_called events h = record {
    inbound_is = inbound_is ∙ ap (λ e. inbound_by e reached) ending_is
        ∙ ap (inbound_by (ending_of called.inbound)) h.reached_is;
    reported = subst (λ (e : FollowEnding Offence). Wrote' e (reached_along (map event_for events))
        events) ending_is (subst (λ (r : Outcome). Wrote' ending r events) h.reached_is
        (closed output (map event_for events) h.reported));
    sends = sends (map event_for events) h.stage_is;
  }

  pub lanes_calls : (i i' : Input) → Follows (stream (answers_to x)) Told' i i' ending
      → CountsFaults i.faults i'.faults (ending ≡ endings.ReadFault)
      → KnownCall x via i i' sink sink' output output' called
  lanes_calls i i' follows counted =
      let some = handled_some (stream (answers_to x)) Told' i i' ending follows in
      let c = has_called some.0 some.1 in
      knows x via i i' sink sink' output output' called
      (subst (λ (e : FollowEnding Offence). Follows (stream (answers_to x)) Called i i' e)
      ending_is (follows_as (stream (answers_to x)) Told' Called i i' ending has_called follows))
      (subst (λ (v : ClientIn). CountsFaults i.faults i'.faults (v ≡ ReadFault))
      (sym inbound_is) (reads_counted i.faults i'.faults ending reached counted))
      (sends_counted x via (ack_along Awaited (map event_for some.0)) called.outbound called.sent
      sink sink' c.sends)
      (writes_counted (said_by Whole) called.report _ output (map event_for some.0) (λ s. ⊤)
      output' c.reported)

-- ---- and all that is known of it

module _ (x : Sending) (via : List ℕ) (i i' : Input) (sink sink' output output1 output' : SinkView)
    (called : CallOutcome) (ending : FollowEnding Offence) (reached : Outcome) (report : Outbound)
    (closed : (first : SinkView) (events : List Event)
    → Writes (said_by Whole) report first events reached (λ s. ⊤) output1
    → Wrote (said_by Whole) called.report (closing_of ending reached) first events (λ s. ⊤)
    output')
    (inbound_is : called.inbound ≡ inbound_by ending reached)
    (counted : CountsFaults i.faults i'.faults (ending ≡ endings.ReadFault)) where
  abbrev FollowsAt : Stage → Type 0
  FollowsAt stage = Follows (stream (answers_to x)) (λ events. HasTold output
      (map event_for events) stage reached report output1) i i' ending

  abbrev Known : Type 0
  Known = KnownCall x via i i' sink sink' output output' called

  knows_at : (stage : Stage) → FollowsAt stage → ((events : List Event) → IsAt stage events
      → Sends x via (ack_along Awaited events) called.outbound called.sent sink sink') → Known
  knows_at stage follows sends = lanes_calls x via sink sink' output output1 output' called ending
      stage reached report closed inbound_is sends i i' follows counted

  -- where nothing was sent behind the opening
  pub knows_unsent : (opened : Outbound) (mid : SinkView)
      → WritesOut opened (opening_bytes x.mode x.encoding via) sink mid → sink' ≡ mid
      → called.outbound ≡ out_of opened → called.sent ≡ 0 → FollowsAt (stage_after opened) → Known
  knows_unsent opened mid wrote same out none follows =
      knows_at (stage_after opened) follows (λ events at. rw (out, none)
      (sends_none x via opened sink mid sink' (ack_along Awaited events) wrote same
      (λ is. subst (λ (s : Stage). IsAt s events) is at)))

  -- where documents were, behind the Ack
  pub knows_sent : FollowsAt Acked
      → SendsAll x (opening_bytes x.mode x.encoding via) sink called.outbound called.sent sink'
      → Known
  knows_sent follows sends = knows_at Acked follows (λ events read. rw read
      (sends_read x via sink sink' called.outbound called.sent sends))

-- ---- where there was no memory to read

pub unfailed : (n : ℕ)
    → CountsFaults n n (◌≡◌ {A = FollowEnding Offence} endings.Memory endings.ReadFault)
unfailed n = record { rose = λ e. cc; same = λ e. refl; grows = omega arith }

never_acked : (opened : Outbound) → stage_after opened ≡ Acked → ⊥
never_acked outbounds.Done is = cc
never_acked outbounds.WriteFault is = cc
never_acked outbounds.Memory is = cc

pub told_unread : (y : Settings) (i : Input) (output : SinkView) (opened : Outbound)
    (reached : Outcome) (report : Outbound) → IsPending (stream y) [] → reached ≡ outcomes.Open
    → report ≡ outbounds.Done → Follows (stream y) (λ events. HasTold output
    (map event_for events) (stage_after opened) reached report output) i i endings.Memory
told_unread y i output opened reached report pending fresh going =
    unread_so y i (λ events. HasTold output events (stage_after opened) reached report output)
    pending (told_first output (stage_after opened) reached report (never_acked opened) fresh going)
