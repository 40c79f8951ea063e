-- What was read of the peer's answers behind one event more, and where the reading stopped.
use Rattle.std.proofs.Common.{◌≡◌, ℕ, true, List, [], ◌∷◌, ◌++◌, map, Some, None, Option}
use Rattle.std.proofs.Common.{sym, refl, ap, ◌∙◌, subst, inl, inr, append_assoc}
use Rattle.std.{specs.Prelude.⊤, specs.Option.option_map, proofs.lemmas.List.map-append}
use Rattle.unit_streams.specs.{Going.IsPending, Grammar.Grammar}
use Rattle.unit_streams.specs.Judging.{events_in, events_of}
use Rattle.nbfx_values.specs.declared.refusals.Offence.{Offence}
use Rattle.stream_loop.specs.declared.following.FollowEnding.{FollowEnding}
use Rattle.stream_loop.specs.Followed.{AreHandled, Follows}
use Rattle.stream_loop.specs.Resumed.{RanOut, WasCut, WasJudged}
use Rattle.stream_loop.proofs.Counts.{counts_as}
use Rattle.io_edges.specs.Faults.{CountsFaults}
use Rattle.stream_loop.proofs.Taking.{broken, decided, follows_as, handled_whole, starved, unbegun}
use Rattle.stream_reader.specs.Stream.{accepted, ended, ends, message, opened, peer_fault}
use Rattle.stream_reader.specs.Stream.{Settings, stream, StreamEvent}
use Rattle.stream_loop.specs.{declared.outbound.Outbound.Outbound, Edges.Input}
use Rattle.stream_loop.specs.Resumed.{HasComeTo, ReadsOn, then_at, WasHalted}
use Rattle.stream_loop.specs.declared.resuming.ReadOn.{ReadOn}
use Rattle.client.specs.declared.answers.AckRead.{AckRead}
use Rattle.client.specs.Answering.{ending_by}
use Rattle.stream_loop.specs.declared.resuming.ReadOn.TheVariants as reads
use Rattle.io_edges.specs.Views.{SinkView}
use Rattle.stream_loop.specs.Writing.{Writes}
use Rattle.stream_loop.proofs.Written.{begins}
use Rattle.session_report.specs.declared.{reading.Event.Event, reporter.Outcome.Outcome}
use Rattle.session_report.specs.Saying.{event_for, said_by, said_outcome}
use Rattle.command_words.specs.declared.task.Detail.TheVariants.{Whole}
use Rattle.unit_streams.specs.Tellers.{state_behind}
use Rattle.client.specs.Called.{Awaited, Read}
use Rattle.client.specs.declared.answers.{AnswerHandler.AnswerHandler, Stage.Stage}
use Rattle.client.specs.declared.answers.Stage.TheVariants.{Acked, Opened, Unopened}
use Rattle.client.specs.Answering.{HasHalted, HasReported, HasTold, IsAt}
use Rattle.client.specs.Called.{ack_after, ack_along}
use Rattle.client.specs.Calling.{Reports}
use Rattle.stream_loop.specs.declared.following.FollowEnding.TheVariants as endings
use Rattle.client.proofs.Handling.{ack_more, not_acked, reached_more, reports_more}
use Rattle.session_report.specs.declared.reading.Event.TheVariants as said
use Rattle.session_report.specs.declared.reporter.Outcome.TheVariants as reached
use Rattle.stream_loop.specs.declared.outbound.Outbound.TheVariants as outbounds

-- ---- the stage

read_still : (event : Event) → ack_after Read event ≡ Read
read_still (said.Opened mode kind via) = refl
read_still said.Accepted = refl
read_still (said.Message received) = refl
read_still (said.Ended n) = refl
read_still (said.PeerFault n text) = refl

-- behind an event at which the reading isn't stopped
pub at_more : (stage : Stage) (events : List Event) (event : Event)
    → (stage ≡ Opened → event ≡ said.Accepted → ⊥) → IsAt stage events
    → IsAt stage (events ++ event ∷ [])
at_more Opened events event other at =
    ack_more Awaited events event ∙ ap (λ a. ack_after a event) at
    ∙ not_acked Awaited event (other refl)
at_more Acked events event other at =
    ack_more Awaited events event ∙ ap (λ a. ack_after a event) at ∙ read_still event
at_more Unopened events event other at = tt

-- behind the Ack
pub at_ack : (events : List Event) → ack_along Awaited (events ++ said.Accepted ∷ []) ≡ Read
at_ack events = ack_more Awaited events said.Accepted

module _ (first : SinkView) where
  abbrev Told' : List Event → Stage → Outcome → Outbound → SinkView → Type 0
  Told' = HasTold first

  pub told_first : (stage : Stage) (out : Outcome) (report : Outbound)
      → (stage ≡ Acked → ⊥) → out ≡ reached.Open → report ≡ outbounds.Done
      → Told' [] stage out report first
  unfolding ack_along state_behind
  told_first stage out report never fresh going = record {
    stage_is = first_at stage never;
    reached_is = fresh;
    reported = rw (fresh, going) (begins (said_by Whole) first);
  } where
    first_at : (stage : Stage) → (stage ≡ Acked → ⊥) → IsAt stage []
    first_at Opened never = refl
    first_at Acked never = absurd (never refl)
    first_at Unopened never = tt

  -- an event more
  pub tells_more : (events : List Event) (event : Event) (stage stage' : Stage)
      (out out' : Outcome) (report report' : Outbound) (old new : SinkView)
      → Told' events stage out report old
      → Reports event report report' old new
      → out' ≡ said_outcome out event → IsAt stage' (events ++ event ∷ [])
      → Told' (events ++ event ∷ []) stage' out' report' new
  tells_more events event stage stage' out out' report report' old new h r is at = record {
    stage_is = at;
    reached_is = is ∙ ap (λ o. said_outcome o event) h.reached_is ∙ sym (reached_more events event);
    reported = rw is (reports_more first events out old event report
        report' new h.reported r);
  }

  -- the Ack, at which the reading stops
  pub tells_ack : (events : List Event) (event : Event) (stage : Stage) (out : Outcome)
      (report : Outbound) (handler : AnswerHandler) (old new : SinkView)
      → Told' events stage out report old → Reports event report handler.report old new
      → handler.reached ≡ said_outcome out event → handler.stage ≡ Opened
      → event ≡ said.Accepted → HasHalted first events (Some event) handler new
  tells_ack events event stage out report handler old new h r is awaited same = record {
    awaited = awaited;
    at_is = ap Some same;
    told = subst (λ (e : Event). Told' (events ++ e ∷ []) Acked handler.reached handler.report new)
        same (tells_more events event stage Acked out handler.reached report handler.report old
        new h r is (subst (λ (e : Event). IsAt Acked (events ++ e ∷ [])) (sym same)
        (at_ack events)));
  }

  -- the lines that the output holds are written
  pub tells_on : (events : List Event) (stage stage' : Stage) (out out' : Outcome)
      (report report' : Outbound) (old new : SinkView) → stage' ≡ stage → out' ≡ out
      → ((first : SinkView) (events : List Event)
      → Writes (said_by Whole) report first events out (λ s. ⊤) old
      → Writes (said_by Whole) report' first events out (λ s. ⊤) new)
      → Told' events stage out report old → Told' events stage' out' report' new
  tells_on events stage stage' out out' report report' old new e_stage e_out writes h = record {
    stage_is = rw e_stage h.stage_is;
    reached_is = e_out ∙ h.reached_is;
    reported = rw e_out (writes first events h.reported);
  }

-- ---- behind the Ack

-- the event at which the reading stopped doesn't end the stream
acked_goes_on : (at : Option StreamEvent) (last : StreamEvent)
    → option_map event_for at ≡ Some said.Accepted → at ≡ Some last → ends last ≡ true → ⊥
acked_goes_on at (opened mode kind via) is same over = cc
acked_goes_on at accepted is same over = cc
acked_goes_on at (message e) is same over = cc
acked_goes_on at (ended n) is same over = let e = ap (option_map event_for) same in cc
acked_goes_on at (peer_fault n text) is same over = let e = ap (option_map event_for) same in cc

-- which event that is
acked_at : (at : Option StreamEvent) → option_map event_for at ≡ Some said.Accepted
    → at ≡ Some accepted
acked_at None is = cc
acked_at (Some (opened mode kind via)) is = cc
acked_at (Some accepted) is = refl
acked_at (Some (message e)) is = cc
acked_at (Some (ended n)) is = cc
acked_at (Some (peer_fault n text)) is = cc

module _ (y : Settings) (i i' : Input) (first : SinkView) where
  -- the reading goes on behind the Ack
  pub come_to_ack : (stands : List ℕ → Type 0) (handler handler' : AnswerHandler) (now : SinkView)
      (left : List ℕ) → handler'.stage ≡ Acked → handler'.reached ≡ handler.reached
      → handler'.report ≡ handler.report
      → WasHalted (stream y) i i' ends stands (λ at paused since. HasHalted first
      (map event_for paused ++ map event_for since) (option_map event_for at)
      handler now) left
      → (q : List ℕ) × HasComeTo (stream y) i i' stands (λ paused since. HasReported first
      (map event_for paused ++ map event_for since) handler' now) q left
  come_to_ack stands handler handler' now left e_stage e_reached e_report w =
      let g : Grammar _ _ StreamEvent _ = stream y in
      let before : List StreamEvent = events_of g w.before in
      let at : w.at ≡ Some accepted = acked_at w.at w.halted.at_is in (
        w.read,
        record {
          stands_for = w.stands_for;
          on = elim w.goes_on [
            | inl on ↦ on
            | inr over ↦ absurd (acked_goes_on w.at over.0.0 w.halted.at_is over.0.1 over.0.2)
          ];
          before = w.before;
          piece = w.piece;
          came = w.came;
          joined = w.joined;
          since = w.since ++ accepted ∷ [];
          events_are = w.events_are ∙ ap (then_at (before ++ w.since)) at
              ∙ append_assoc before w.since (accepted ∷ []);
          handled = rw (e_stage, e_reached, e_report)
              (subst (λ l. HasTold first l Acked handler.reached handler.report now)
              (append_assoc (map event_for before) (map event_for w.since) (said.Accepted ∷ [])
              ∙ ap (λ l. map event_for before ++ l)
              (sym (map-append event_for w.since (accepted ∷ [])))) w.halted.told);
          no_empty_take = w.no_empty_take;
        },
      )

-- ---- when the reading ends

module _ (y : Settings) (i i' : Input) (P : List Event → Type 0) where
  abbrev HandledSo : List StreamEvent → List StreamEvent → Type 0
  HandledSo paused since = P (map event_for paused ++ map event_for since)

  abbrev Follows' : FollowEnding Offence → Type 0
  Follows' ending = Follows (stream y) (λ events. P (map event_for events)) i i' ending

  so_handled : (ending : FollowEnding Offence)
      → Follows (stream y) (AreHandled event_for (λ paused since. P (paused ++ since))) i i' ending
      → Follows' ending
  so_handled ending h = follows_as (stream y) _ _ i i' ending (handled_whole event_for P) h

  pub judged_so : (left : List ℕ) (judged : Option Offence)
      → WasJudged (stream y) i i' HandledSo left judged → Follows' (endings.Judged judged)
  judged_so left judged w = so_handled (endings.Judged judged)
      (decided (stream y) event_for (λ paused since. P (paused ++ since)) i i' left judged w)

  pub cut_so : (Waits : Type 0) → WasCut (stream y) i i' HandledSo Waits
      → Follows' endings.ReadFault
  cut_so Waits w = so_handled endings.ReadFault
      (broken (stream y) event_for (λ paused since. P (paused ++ since)) i i' Waits w)

  pub starved_so : RanOut (stream y) i i' HandledSo → Follows' endings.Memory
  starved_so w = so_handled endings.Memory
      (starved (stream y) event_for (λ paused since. P (paused ++ since)) i i' w)

  -- by the answer of the loop
  pub ended_so : (stands : List ℕ → Type 0)
      (Halts : AckRead → Option StreamEvent → List StreamEvent → List StreamEvent → Type 0)
      (Waits : Type 0) (left : List ℕ) (r : ReadOn Offence AckRead) (ending : FollowEnding Offence)
      → ending_by r ≡ Some ending
      → ReadsOn (stream y) i i' ends stands HandledSo Halts Waits left r → Follows' ending
  ended_so stands Halts Waits left (reads.Judged judged) ending is h =
      let same : endings.Judged judged ≡ ending = cc in
      subst Follows' same (judged_so left judged h)
  ended_so stands Halts Waits left reads.ReadFault ending is h =
      let same : endings.ReadFault ≡ ending = cc in subst Follows' same (cut_so Waits h)
  ended_so stands Halts Waits left reads.Memory ending is h =
      let same : endings.Memory ≡ ending = cc in subst Follows' same (starved_so h)
  ended_so stands Halts Waits left (reads.Halted halt) ending is h = cc

  pub halted_so : (stands : List ℕ → Type 0)
      (Halts : AckRead → Option StreamEvent → List StreamEvent → List StreamEvent → Type 0)
      (Waits : Type 0) (left : List ℕ) (r : ReadOn Offence AckRead) → ending_by r ≡ None
      → ReadsOn (stream y) i i' ends stands HandledSo Halts Waits left r
      → (halt : AckRead) × WasHalted (stream y) i i' ends stands (Halts halt) left
  halted_so stands Halts Waits left (reads.Judged judged) is h = cc
  halted_so stands Halts Waits left reads.ReadFault is h = cc
  halted_so stands Halts Waits left reads.Memory is h = cc
  halted_so stands Halts Waits left (reads.Halted halt) is h = (halt, h)

-- the failed reads
pub counted_so : (f f' : ℕ) (r : ReadOn Offence AckRead) (ending : FollowEnding Offence)
    → ending_by r ≡ Some ending → CountsFaults f f' (r ≡ reads.ReadFault)
    → CountsFaults f f' (ending ≡ endings.ReadFault)
counted_so f f' (reads.Judged judged) ending is h =
    let same : endings.Judged judged ≡ ending = cc in counts_as f f' _ _ (λ e. cc) (λ e. cc) h
counted_so f f' reads.ReadFault ending is h =
    let same : endings.ReadFault ≡ ending = cc in counts_as f f' _ _ (λ e. sym same) (λ e. refl) h
counted_so f f' reads.Memory ending is h =
    let same : endings.Memory ≡ ending = cc in counts_as f f' _ _ (λ e. cc) (λ e. cc) h
counted_so f f' (reads.Halted halt) ending is h = cc

pub uncounted_so : (f f' : ℕ) (r : ReadOn Offence AckRead) → ending_by r ≡ None
    → CountsFaults f f' (r ≡ reads.ReadFault) → f' ≡ f
uncounted_so f f' (reads.Judged judged) is h = cc
uncounted_so f f' reads.ReadFault is h = cc
uncounted_so f f' reads.Memory is h = cc
uncounted_so f f' (reads.Halted halt) is h = h.same (λ e. cc)

-- nothing was read
pub unread_so : (y : Settings) (i : Input) (P : List Event → Type 0)
    → IsPending (stream y) [] → P [] → Follows (stream y) (λ events. P (map event_for events)) i i
    endings.Memory
unfolding events_of events_in
unread_so y i P pending none = unbegun (stream y) _ i pending none
