-- A stream doesn't end well without what begins its session: the front's without its preamble, and
-- the back's without an Ack or a Fault.
use Rattle.std.proofs.Common.{◌≡◌, ℕ, false, List, ◌++◌, length, None, Option, sym}
use Rattle.std.proofs.Common.{refl, ap, ◌∙◌, subst}
use Rattle.unit_streams.specs.Judging.{history, offence}
use Rattle.nbfx_values.specs.Limits.{IsGood}
use Rattle.nbfx_values.specs.declared.session.{Kind.Kind, Mode.Mode}
use Rattle.nbfx_encoder.specs.declared.sender.Side.TheVariants.{Initiator, Receiver}
use Rattle.stream_reader.proofs.{Closed.closed_or_refused, SessionEnds.sessions_are_told}
use Rattle.stream_reader.specs.Sessions.{answer, broken_off, conversation, HasParts, IsClosed}
use Rattle.stream_reader.specs.Sessions.{lone_ack, Parts, session_events, turned_down}
use Rattle.stream_reader.specs.Stream.{initiators, receivers, Settings, Side, stream, StreamEvent}
use Rattle.stream_loop.specs.{Edges.Input, Followed.IsWhole}
use Rattle.relay.specs.declared.outcome.PumpIn.{PumpIn}
use Rattle.relay.specs.{Beginning.EndsBefore, Relayed.EndsUnaccepted}
use Rattle.relay.specs.Events.{faulted_along, has_begun, said}
use Rattle.relay.specs.declared.outcome.PumpIn.TheVariants as ins

-- the events of a session begin with that, or are a Fault
back_begins : (x : Settings) (mode : Mode) (kind : Kind) (parts : Parts) (n : ℕ)
    (session : List ℕ) → HasParts x (receivers mode kind) parts session
    → has_begun Receiver (said (session_events parts n)) ≡ false
    → faulted_along false (said (session_events parts n)) ≡ false → ⊥
unfolding has_begun faulted_along
back_begins x mode kind (conversation m k via carried) n session has none well = has
back_begins x mode kind (answer carried) n session has none well = cc
back_begins x mode kind lone_ack n session has none well = cc
back_begins x mode kind (broken_off carried text) n session has none well = cc
back_begins x mode kind (turned_down text) n session has none well = cc

front_begins : (x : Settings) (endpoint : Option (List ℕ)) (parts : Parts) (n : ℕ)
    (session : List ℕ) → HasParts x (initiators endpoint) parts session
    → has_begun Initiator (said (session_events parts n)) ≡ false → ⊥
unfolding has_begun
front_begins x endpoint (conversation m k via carried) n session has none = cc
front_begins x endpoint (answer carried) n session has none = has
front_begins x endpoint lone_ack n session has none = has
front_begins x endpoint (broken_off carried text) n session has none = has
front_begins x endpoint (turned_down text) n session has none = has

module _ (x : Settings) (good : IsGood x.limits) where
  -- the events of a stream that ends well are those of a session
  ends_well : (bytes : List ℕ) (events : List StreamEvent) → IsWhole (stream x) events None bytes
      → (parts : Parts) × (n : ℕ) × (session : List ℕ) × HasParts x x.side parts session
      × (events ≡ session_events parts n)
  unfolding offence
  ends_well bytes events whole =
      let closed : IsClosed x bytes =
      (closed_or_refused x good bytes).0 (ap (λ h. h.offence) whole) in
      let told = sessions_are_told x good closed.parts closed.session closed.rest closed.is_session
      closed.may_follow in
      let same : history (stream x) (closed.session ++ closed.rest)
      ≡ record { events = events; offence = None } =
      ap (history (stream x)) (sym closed.joined) ∙ whole in (
        closed.parts,
        length closed.session,
        closed.session,
        closed.is_session.0,
        ap (λ h. h.events) (sym same ∙ told),
      )

  pub front_unended : (endpoint : Option (List ℕ)) → x.side ≡ initiators endpoint
      → (i i' : Input) (read : PumpIn) → EndsBefore x i i' Initiator read → read ≡ ins.Ended → ⊥
  front_unended endpoint side i i' ins.Ended h is =
      let k = ends_well h.bytes h.events h.whole in
      front_begins x endpoint k.0 k.1 k.2 (subst (λ (v : Side). HasParts x v k.0 k.2) side k.3)
      (subst (λ (l : List StreamEvent). has_begun Initiator (said l) ≡ false) k.4 h.handled.0)
  front_unended endpoint side i i' (ins.Offended o) h is = cc
  front_unended endpoint side i i' ins.PeerFault h is = cc
  front_unended endpoint side i i' ins.NotOpened h is = cc
  front_unended endpoint side i i' ins.ReadFault h is = cc
  front_unended endpoint side i i' ins.Memory h is = cc

  -- so the back's is refused before that, or ends with a Fault, or no more of it is read
  pub ends_unaccepted : (mode : Mode) (kind : Kind) → x.side ≡ receivers mode kind
      → (i i' : Input) (read : PumpIn) → EndsBefore x i i' Receiver read
      → (read ≡ ins.NotOpened → ⊥) → EndsUnaccepted read
  ends_unaccepted mode kind side i i' ins.Ended h open_read =
      let k = ends_well h.bytes h.events h.whole in
      back_begins x mode kind k.0 k.1 k.2 (subst (λ (v : Side). HasParts x v k.0 k.2) side k.3)
      (subst (λ (l : List StreamEvent). has_begun Receiver (said l) ≡ false) k.4 h.handled.0)
      (subst (λ (l : List StreamEvent). faulted_along false (said l) ≡ false) k.4 h.handled.1)
  ends_unaccepted mode kind side i i' (ins.Offended o) h open_read = tt
  ends_unaccepted mode kind side i i' ins.PeerFault h open_read = tt
  ends_unaccepted mode kind side i i' ins.NotOpened h open_read = open_read refl
  ends_unaccepted mode kind side i i' ins.ReadFault h open_read = tt
  ends_unaccepted mode kind side i i' ins.Memory h open_read = tt
