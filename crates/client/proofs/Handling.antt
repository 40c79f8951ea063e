-- What is known of events when one more comes, and what was reported then and when the stream is
-- over.
use Rattle.std.proofs.Common.{◌≡◌, ℕ, true, List, [], ◌∷◌, ◌++◌, Ok, Result, sym}
use Rattle.std.proofs.Common.{refl, ◌∙◌, subst}
use Rattle.{std.specs.Prelude.⊤, io_edges.specs.declared.SinkFault.SinkFault}
use Rattle.unit_streams.proofs.Telling.{state_append, state_one}
use Rattle.stream_loop.specs.declared.outbound.Outbound.{Outbound}
use Rattle.stream_loop.proofs.Written.{closes, goes_by, pauses, stays_closed, stays_so}
use Rattle.stream_loop.proofs.Written.{steps, stops_last, memory_by}
use Rattle.stream_loop.specs.Writing.{Goes, outbound_by, Writes, Wrote}
use Rattle.session_report.specs.declared.{reading.Event.Event, reporter.Outcome.Outcome}
use Rattle.session_report.specs.Saying.{said_by, said_outcome}
use Rattle.command_words.specs.declared.task.Detail.TheVariants.{Whole}
use Rattle.client.specs.Called.{Ack}
use Rattle.client.specs.Called.{ack_after, ack_along, reached_along}
use Rattle.client.specs.Calling.{Reports}
use Rattle.io_edges.specs.Views.{SinkView}
use Rattle.io_edges.specs.Puts.{Puts}
use Rattle.stream_loop.specs.declared.outbound.Outbound.TheVariants as outbounds
use Rattle.session_report.specs.declared.reading.Event.TheVariants as said
use Rattle.session_report.specs.declared.reporter.Outcome.TheVariants as reached

-- ---- one event more

pub ack_more : (ack : Ack) (events : List Event) (event : Event)
    → ack_along ack (events ++ event ∷ []) ≡ ack_after (ack_along ack events) event
unfolding ack_along
ack_more ack [] event = refl
ack_more ack (one ∷ events) event = ack_more (ack_after ack one) events event

pub reached_more : (events : List Event) (event : Event)
    → reached_along (events ++ event ∷ []) ≡ said_outcome (reached_along events) event
reached_more events event =
    state_append (said_by Whole) events (event ∷ []) reached.Open
    ∙ state_one (said_by Whole) event (reached_along events)

-- an event that isn't the Ack
pub not_acked : (ack : Ack) (event : Event) → (event ≡ said.Accepted → ⊥)
    → ack_after ack event ≡ ack
not_acked ack (said.Opened mode kind via) never = refl
not_acked ack said.Accepted never = absurd (never refl)
not_acked ack (said.Message received) never = refl
not_acked ack (said.Ended n) never = refl
not_acked ack (said.PeerFault n text) never = refl

module _ (first : SinkView) (events : List Event) where
  abbrev Writes' : Outbound → List Event → Outcome → SinkView → Type 0
  Writes' report events outcome now = Writes (said_by Whole) report
      first events outcome (λ s. ⊤) now

  abbrev Wrote' : Outbound → List ℕ → SinkView → Type 0
  Wrote' report closing now = Wrote (said_by Whole) report closing
      first events (λ s. ⊤) now

  module _ (outcome : Outcome) (old : SinkView) where
    reports_stopped : (event : Event) (report report' : Outbound) (outcome' : Outcome)
        (new : SinkView)
        → (report ≡ outbounds.Done → ⊥) → Writes' report events outcome old
        → Reports event report report' old new
        → Writes' report' (events ++ event ∷ []) outcome' new
    reports_stopped event report report' outcome' new never h r =
        subst (λ o. Writes' o (events ++ event ∷ []) outcome' new) (sym (r.stays never))
        (subst (λ k. Writes' report (events ++ event ∷ []) outcome' k) (sym (r.untouched never))
        (stays_so (said_by Whole) first events old report event outcome
        outcome' (λ s. ⊤) (λ s. ⊤) never (λ s e. e) h))

    pub reports_more : (event : Event) (report report' : Outbound) (new : SinkView)
        → Writes' report events outcome old
        → Reports event report report' old new
        → Writes' report' (events ++ event ∷ []) (said_outcome outcome event) new
    reports_more event outbounds.Done report' new h r =
        steps (said_by Whole) first events outcome old h report' event
        (said_outcome outcome event) (λ s. ⊤) new (r.goes refl) (λ done. refl) (λ never. tt)
    reports_more event outbounds.WriteFault report' new h r =
        reports_stopped event outbounds.WriteFault report' (said_outcome outcome event) new
        (λ e. cc) h r
    reports_more event outbounds.Memory report' new h r =
        reports_stopped event outbounds.Memory report' (said_outcome outcome event) new
        (λ e. cc) h r

    -- what the output holds is written
    pub reports_on : (answer : Result ⊤ SinkFault) (report report' : Outbound) (new : SinkView)
        → report ≡ outbounds.Done → report' ≡ outbound_by answer
        → Puts old new [] answer → Writes' report events outcome old
        → Writes' report' events outcome new
    reports_on answer report report' new going is puts h =
        rw is (pauses (said_by Whole) first events outcome old
        (rw going at h) (outbound_by answer) (λ s. ⊤) new
        (goes_by answer [] old new puts)
        (memory_by answer [] old new puts) tt)

    -- the stream is over
    module _ (report : Outbound) (closing : List ℕ) (h : Writes' report events outcome old) where
      pub closed_before : (report ≡ outbounds.Done → ⊥) → Wrote' report closing old
      closed_before never =
          stays_closed (said_by Whole) first events old report closing
          outcome (λ s. ⊤) never h

      pub closed_at : (report' : Outbound) (new : SinkView) → report ≡ outbounds.Done
          → (report' ≡ outbounds.Done → ⊥)
          → Goes report' closing old new
          → (report' ≡ outbounds.Memory → old.may_run_out ≡ true) → Wrote' report' closing new
      closed_at report' new going never goes memory =
          stops_last (said_by Whole) first events outcome old
          (rw going at h) report' closing (λ s. ⊤) new never goes memory tt

      pub closed_well : (answer : Result ⊤ SinkFault) (report' : Outbound) (mid new : SinkView)
          → report ≡ outbounds.Done → Puts old mid closing (Ok tt)
          → report' ≡ outbound_by answer
          → Puts mid new [] answer → new.held ≡ []
          → Wrote' report' closing new
      closed_well answer report' mid new going puts is flushed emptied =
          rw is (closes (said_by Whole) first events outcome old
          (rw going at h) closing (λ s. ⊤) mid new answer puts flushed emptied tt)
