-- What is known of a connection when its stream is over and what is owed last is written.
use Rattle.std.proofs.Common.{◌≡◌, ℕ, List, map, Some, None, Option, sym, refl, ap, ◌∙◌}
use Rattle.{std.proofs.Common.subst, io_edges.specs.Faults.CountsFaults}
use Rattle.nbfx_values.specs.declared.refusals.Offence.{Offence}
use Rattle.stream_reader.specs.Stream.{Settings, stream, StreamEvent}
use Rattle.stream_loop.proofs.{Counts.handled_some, Counts.writes_counted, Taking.follows_as}
use Rattle.stream_loop.specs.{declared.following.FollowEnding.FollowEnding, Edges.Input}
use Rattle.stream_loop.specs.{Followed.Follows, Followed.Leaves, Followed.WasTaken}
use Rattle.stream_loop.specs.Writing.{Wrote}
use Rattle.duplex_server.specs.declared.outcome.Inbound.{Inbound, TheVariants.ReadFault}
use Rattle.duplex_server.specs.{Carrying.ServesKept, declared.outcome.Outcome.Outcome}
use Rattle.duplex_server.specs.Requests.{request_for}
use Rattle.duplex_server.specs.ServerStream.{Answering, messages_along, replies, requests_to}
use Rattle.duplex_server.specs.Serving.{closing_of, ending_of, HasServed, inbound_of, Serves}
use Rattle.duplex_server.proofs.{Behind.goes_behind, Judged.serves_by}
use Rattle.io_edges.specs.Views.{SinkView}
use Rattle.stream_loop.specs.declared.following.FollowEnding.TheVariants as endings

pub ending_again : (ending : FollowEnding Offence) → ending_of (inbound_of ending) ≡ ending
ending_again (endings.Judged None) = refl
ending_again (endings.Judged (Some offence)) = refl
ending_again endings.ReadFault = refl
ending_again endings.Memory = refl

-- a failed read is said so
read_fault : (ending : FollowEnding Offence) → inbound_of ending ≡ ReadFault → ending
    ≡ endings.ReadFault
read_fault ending is = sym (ending_again ending) ∙ ap ending_of is

pub reads_counted : (f f' : ℕ) (ending : FollowEnding Offence)
    → CountsFaults f f' (ending ≡ endings.ReadFault)
    → CountsFaults f f' (inbound_of ending ≡ ReadFault)
reads_counted f f' ending h = record {
  rose = λ is. h.rose (read_fault ending is);
  same = λ never. h.same (λ is. never (ap inbound_of is));
  grows = h.grows;
}

-- the same settings
pub followed_as : (x y : Settings) → x ≡ y → (Handled : List StreamEvent → Type 0) (i i' : Input)
    (ending : FollowEnding Offence) → Follows (stream x) Handled i i' ending
    → Follows (stream y) Handled i i' ending
followed_as x y same Handled i i' ending h =
    subst (λ (s : Settings). Follows (stream s) Handled i i' ending) same h

module _ (x : Answering) (first now : SinkView) (outcome : Outcome) (ending : FollowEnding Offence)
    (is : outcome.inbound ≡ inbound_of ending) where
  ending_is : ending ≡ ending_of outcome.inbound
  ending_is = sym (ap ending_of is ∙ ending_again ending)

  -- what was written of some events, as what was owed last came
  pub served : (xn : Answering) → xn ≡ x → (events : List StreamEvent)
      → outcome.messages ≡ messages_along 0 (map request_for events)
      → Wrote (replies xn) outcome.outbound (closing_of ending) first
      (map request_for events) (λ s. outcome.answers ≡ s.answers) now
      → HasServed x outcome first now events
  served xn same events counts wrote = record {
    counted = counts;
    wrote = subst (λ (e : FollowEnding Offence). Wrote (replies x)
        outcome.outbound (closing_of e) first (map request_for events)
        (λ s. outcome.answers ≡ s.answers) now) ending_is
        (subst (λ (y : Answering). Wrote (replies y)
        outcome.outbound (closing_of ending) first (map request_for events)
        (λ s. outcome.answers ≡ s.answers) now) same wrote);
  }

  module _ (endpoint : Option (List ℕ)) (i i' : Input) (Handled : List StreamEvent → Type 0)
      (follows : Follows (stream (requests_to x endpoint)) Handled i i' ending)
      (all : (events : List StreamEvent) → Handled events
      → HasServed x outcome first now events)
      (counted : CountsFaults i.faults i'.faults (ending ≡ endings.ReadFault)) where
    some : (events : List StreamEvent) × Handled events
    some = handled_some (stream (requests_to x endpoint)) Handled i i' ending follows

    pub serves : Serves x endpoint i i' first now outcome
    serves = serves_by x endpoint i i' first now outcome
        (subst (λ (e : FollowEnding Offence). Follows (stream (requests_to x endpoint))
        (HasServed x outcome first now) i i' e) ending_is
        (follows_as (stream (requests_to x endpoint)) Handled
        (HasServed x outcome first now) i i' ending all follows))
        (subst (λ (v : Inbound). CountsFaults i.faults i'.faults (v ≡ ReadFault))
        (sym is) (reads_counted i.faults i'.faults ending counted))
        (writes_counted (replies x) outcome.outbound
        (closing_of (ending_of outcome.inbound)) first (map request_for some.0)
        (λ s. outcome.answers ≡ s.answers) now (all some.0 some.1).wrote)

  -- the same of a session whose first bytes were carried, and what stands behind it
  pub kept : (endpoint : Option (List ℕ)) (i0 i' : Input) (held held' : List ℕ)
      (Handled : List StreamEvent → Type 0)
      → ((i : Input) → WasTaken held i i0
      → Follows (stream (requests_to x endpoint)) Handled i i' ending)
      → ((i : Input) → WasTaken held i i0 → ending ≡ endings.Judged None
      → Leaves (stream (requests_to x endpoint)) i i' held')
      → ((events : List StreamEvent) → Handled events → HasServed x outcome first now events)
      → CountsFaults i0.faults i'.faults (ending ≡ endings.ReadFault)
      → ServesKept x endpoint i0 i' held held' first now outcome
  kept endpoint i0 i' held held' Handled follows left all counted = record {
    serves = λ i taken. serves endpoint i i' Handled (follows i taken) all
        (subst (λ (n : ℕ). CountsFaults n i'.faults (ending ≡ endings.ReadFault)) taken.faults
        counted);
    behind = λ i taken ended. goes_behind x endpoint i i' held'
        (left i taken (ending_is ∙ ap ending_of ended));
  }
