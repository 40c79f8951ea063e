-- What is known of a call when the peer's stream is over.
use Rattle.std.proofs.Common.{◌≡◌, ℕ, List, [], Some, None, sym, refl, ap, ◌∙◌}
use Rattle.std.{proofs.Common.inl, proofs.Common.inr}
use Rattle.io_edges.{proofs.Putting.Puts-nothing, specs.Faults.CountsFaults}
use Rattle.nbfx_values.specs.declared.{refusals.Offence.Offence}
use Rattle.stream_loop.proofs.Counts.{counts_as, ends_counted}
use Rattle.stream_loop.specs.declared.{following.FollowEnding.FollowEnding}
use Rattle.stream_loop.specs.Writing.{IsCut}
use Rattle.initiator_machine.specs.Opening.{opening_bytes}
use Rattle.session_report.specs.declared.{reporter.Outcome.Outcome}
use Rattle.client.specs.Called.{Ack, Awaited, Read}
use Rattle.client.specs.declared.outcome.{ClientOut.ClientOut}
use Rattle.client.specs.declared.outcome.ClientIn.{TheVariants.ReadFault}
use Rattle.client.specs.Called.{ending_of}
use Rattle.client.specs.Called.{inbound_by, Sends}
use Rattle.client.specs.Sent.{Sending, SendsAll}
use Rattle.io_edges.specs.Views.{SinkView}
use Rattle.stream_loop.specs.declared.following.FollowEnding.TheVariants as endings
use Rattle.stream_loop.specs.declared.outbound.Outbound.TheVariants as outbounds
use Rattle.session_report.specs.declared.reporter.Outcome.TheVariants as reached
use Rattle.client.specs.declared.outcome.ClientOut.TheVariants as out

pub ending_again : (ending : FollowEnding Offence) (outcome : Outcome)
    → ending_of (inbound_by ending outcome) ≡ ending
ending_again (endings.Judged (Some offence)) outcome = refl
ending_again (endings.Judged None) reached.Faulted = refl
ending_again (endings.Judged None) reached.Open = refl
ending_again (endings.Judged None) reached.Ended = refl
ending_again endings.ReadFault outcome = refl
ending_again endings.Memory outcome = refl

-- a failed read is said so
pub reads_counted : (f f' : ℕ) (ending : FollowEnding Offence) (outcome : Outcome)
    → CountsFaults f f' (ending ≡ endings.ReadFault)
    → CountsFaults f f' (inbound_by ending outcome ≡ ReadFault)
reads_counted f f' ending outcome h =
    counts_as f f' (ending ≡ endings.ReadFault) (inbound_by ending outcome ≡ ReadFault)
    (λ is. ap (λ e. inbound_by e outcome) is)
    (λ is. sym (ending_again ending outcome) ∙ ap ending_of is) h

module _ (x : Sending) (via : List ℕ) where
  abbrev opening : List ℕ
  opening = opening_bytes x.mode x.encoding via

  abbrev Sends' : Ack → ClientOut → ℕ → SinkView → SinkView → Type 0
  Sends' = Sends x via

  -- what was sent behind the Ack
  pub sends_read : (first now : SinkView) (outbound : ClientOut) (sent : ℕ)
      → SendsAll x opening first outbound sent now
      → Sends' Read outbound sent first now
  sends_read first now out.Done sent h = h
  sends_read first now (out.Unfit number fault) sent h = h
  sends_read first now out.WriteFault sent h = inr h
  sends_read first now out.Memory sent h = inr h

  -- ---- counts

  abbrev Counts : ClientOut → SinkView → SinkView → Type 0
  Counts o first now = CountsFaults first.faults now.faults (o ≡ out.WriteFault)

  cut_counted : (next : List ℕ) (first now : SinkView) → IsCut outbounds.WriteFault next first now
      → Counts out.WriteFault first now
  cut_counted next first now cut =
      counts_as _ _ _ _ (λ e. refl) (λ e. refl) (ends_counted
      outbounds.WriteFault [] cut.bytes first first now (Puts-nothing _) cut.ends)

  starved_counted : (next : List ℕ) (first now : SinkView) → IsCut outbounds.Memory next first now
      → Counts out.Memory first now
  starved_counted next first now cut =
      counts_as _ _ _ _ (λ e. cc) (λ e. cc) (ends_counted
      outbounds.Memory [] cut.bytes first first now (Puts-nothing _) cut.ends)

  pub sends_counted : (ack : Ack) (outbound : ClientOut) (sent : ℕ) (first now : SinkView)
      → Sends' ack outbound sent first now → Counts outbound first now
  sends_counted Awaited out.Done sent first now h =
      counts_as _ _ _ _ (λ e. cc) (λ e. cc) h.1.counted
  sends_counted Awaited (out.Unfit number fault) sent first now h = absurd h
  sends_counted Awaited out.WriteFault sent first now h = cut_counted opening first now h.1
  sends_counted Awaited out.Memory sent first now h = starved_counted opening first now h.1
  sends_counted Read out.Done sent first now h =
      counts_as _ _ _ _ (λ e. cc) (λ e. cc) h.puts.counted
  sends_counted Read (out.Unfit number fault) sent first now h =
      counts_as _ _ _ _ (λ e. cc) (λ e. cc) h.puts.puts.counted
  sends_counted Read out.WriteFault sent first now (inl h) = cut_counted opening first now h.1
  sends_counted Read out.WriteFault sent first now (inr h) =
      counts_as _ _ _ _ (λ e. refl) (λ e. refl) h.faults_counted
  sends_counted Read out.Memory sent first now (inl h) = starved_counted opening first now h.1
  sends_counted Read out.Memory sent first now (inr h) =
      counts_as _ _ _ _ (λ e. cc) (λ e. cc) h.faults_counted
