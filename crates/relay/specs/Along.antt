-- What has been relayed so far, for private calls.
use Rattle.std.specs.Prelude.{◌≡◌, ℕ, List, [], length, Some, None, Ok, Err, Option, Result}
use Rattle.io_edges.specs.{declared.Failed.Failed, Flow.Told, Views.SinkView, Wires.Network}
use Rattle.{io_edges.specs.Puts.Puts, relay.specs.Lines.lines_from}
use Rattle.relay.specs.declared.outcome.RelayOutcome.{RelayOutcome}
use Rattle.relay.specs.Connections.{Connection, Ends, HandsNone, outcomes_of, RelaysEach}
use Rattle.relay.specs.{Connections.RelaysOne, Connections.WireFails, Relayed.Relay}

module _ (x : Relay) {R K : Type 0} (seen : R × K → Ends) (n n' : Network R K) where
  -- by the answer of the call that asked for a connection
  abbrev pub RelaysNext : Result (Option RelayOutcome) Failed → Type 0
  RelaysNext (Ok None) =
      HandsNone x seen n n' ⊥ × Told n.waiting n'.waiting (λ before after. after ≡ [])
  RelaysNext (Ok (Some outcome)) =
      (c : Connection) × (c.outcome ≡ outcome) × RelaysOne x seen c n n'
  RelaysNext (Err failed) = WireFails x seen n n'

  -- so many connections were relayed, and their lines are written
  pub record IsAlong (first now : SinkView) (Same : Type 0) (count : ℕ) : Type 0 where
    pub connections : List Connection
    pub counted : length connections ≡ count
    pub each : RelaysEach x seen connections n n'
    pub puts : Puts first now (lines_from 0 (outcomes_of connections)) (Ok tt)
    pub emptied : (connections ≡ [] → ⊥) → now.held ≡ []
    pub untouched : connections ≡ [] → Same
