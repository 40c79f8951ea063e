-- What was read and written where connections are relayed one after the other: on each of them, and
-- what is left of the wire that gave them and of the output of their lines.
use Rattle.std.specs.Prelude.{◌≡◌, ℕ, ◌<◌, ◌≤◌, ◌⊎◌, List, [], ◌∷◌, ◌++◌, map, length, Ok}
use Rattle.std.specs.Prelude.{Err, IfSome, Option, Result, ⊤}
use Rattle.io_edges.specs.{declared.SinkFault.SinkFault, Flow.GrowsByPrefix, Flow.Passes, Flow.Told}
use Rattle.io_edges.specs.Views.{SinkView}
use Rattle.io_edges.specs.{Faults.CountsFaults, Wires.added_up, Wires.Network}
use Rattle.stream_loop.specs.Edges.{AreNew, Input, input_at}
use Rattle.relay.specs.declared.{outcome.RelayOutcome.RelayOutcome, stopping.RelayFault.RelayFault}
use Rattle.relay.specs.{Lines.lines_from, Lines.relay_line, Relayed.IsRelayed, Relayed.Relay}
use Rattle.io_edges.specs.declared.SinkFault.TheVariants as sinks
use Rattle.relay.specs.declared.stopping.RelayFault.TheVariants as stops

-- what is seen at one moment of the ends of a connection: of the source and of the sink
pub record Ends : Type 0 where
  pub input : Input
  pub sink : SinkView

abbrev pub ends_at : {R K : Type 0} → (left taken : R → Option (List ℕ))
    → (reads empty_takes : R → ℕ) → (view : K → SinkView) → R × K → Ends
ends_at left taken reads empty_takes view ends = record {
  input = input_at left taken reads empty_takes ends.0;
  sink = view ends.1;
}

-- the ends of a connection when they were handed out and when they were closed
pub record Side : Type 0 where
  pub handed : Ends
  pub closed : Ends

-- both sides of a relay, and what became of it
pub record Connection : Type 0 where
  pub front : Side
  pub back : Side
  pub outcome : RelayOutcome

-- what closing the ends of a side adds to what is told of ended connections
abbrev pub Closes : Side → List (List ℕ × List ℕ) → List (List ℕ × List ℕ) → Type 0
Closes side before after = IfSome side.closed.input.taken (λ t.
    IfSome side.closed.sink.written (λ w. after ≡ before ++ (t, w) ∷ []))

abbrev pub with_faults : ℕ → Side → ℕ
with_faults count side = added_up count side.closed.input.faults side.closed.sink.faults

module _ (x : Relay) {R K : Type 0} (seen : R × K → Ends) where
  -- The ends of a side were handed out by a wire, and nothing had moved through them.
  pub record Hands (side : Side) (n n' : Network R K) : Type 0 where
    pub handed : Told n.waiting n'.waiting (λ before after. (ends : R × K)
        × (before ≡ ends ∷ after) × (seen ends ≡ side.handed))
    pub begins : AreNew n.closed side.handed.input side.handed.sink
    pub closed : n'.closed ≡ n.closed
    pub end_faults : n'.end_faults ≡ n.end_faults
    pub faults : n'.faults ≡ n.faults

  -- They were closed.
  pub record Ended (side : Side) (n n' : Network R K) : Type 0 where
    pub closed : Told n.closed n'.closed (Closes side)
    pub end_faults : n'.end_faults ≡ with_faults n.end_faults side
    pub waiting : n'.waiting ≡ n.waiting
    pub faults : n'.faults ≡ n.faults

  -- A front was accepted and a back connected, both were joined, and are closed, the front first.
  pub record RelaysOne (c : Connection) (n n' : Network R K) : Type 0 where
    pub accepted : Network R K
    pub connected : Network R K
    pub front_closed : Network R K
    pub accepts : Hands c.front n accepted
    pub connects : Hands c.back accepted connected
    pub relayed : IsRelayed x c.front.handed.input c.front.closed.input c.back.handed.input
        c.back.closed.input c.front.handed.sink c.front.closed.sink c.back.handed.sink
        c.back.closed.sink c.outcome
    pub ends_front : Ended c.front connected front_closed
    pub ends_back : Ended c.back front_closed n'
    pub out : n'.out ≡ n.out

  -- these connections, one after the other
  unfoldable pub RelaysEach : List Connection → (n n' : Network R K) → Type 0
  RelaysEach [] n n' = n' ≡ n
  RelaysEach (c ∷ connections) n n' =
      (mid : Network R K) × RelaysOne c n mid × RelaysEach connections mid n'

  -- no connection was handed out
  pub record HandsNone (n n' : Network R K) (failed : Type 0) : Type 0 where
    pub waiting : Told n.waiting n'.waiting (λ before after. after ≡ before)
    pub closed : n'.closed ≡ n.closed
    pub end_faults : n'.end_faults ≡ n.end_faults
    pub out : n'.out ≡ n.out
    pub counted : CountsFaults n.faults n'.faults failed

  -- a front was accepted, no back was connected, and the front was closed as it was
  pub record FailsToConnect (n n' : Network R K) : Type 0 where
    pub front : Side
    pub accepted : Network R K
    pub failed : Network R K
    pub accepts : Hands front n accepted
    pub connects : HandsNone accepted failed ⊤
    pub untouched : front.closed ≡ front.handed
    pub ends_front : Ended front failed n'
    pub out : n'.out ≡ n.out

  -- the wire failed
  abbrev pub WireFails : (n n' : Network R K) → Type 0
  WireFails n n' = HandsNone n n' ⊤ ⊎ FailsToConnect n n'

-- ---- the lines

abbrev pub outcomes_of : List Connection → List RelayOutcome
outcomes_of connections = map (λ (c : Connection). c.outcome) connections

-- The lines of all connections are written, behind what was held; where there were none, nothing
-- is, and `Same` is known.
pub record HasLines (first now : SinkView) (Same : Type 0) (outcomes : List RelayOutcome) : Type 0
  where
    pub lines : Told first.written now.written
        (λ w w'. Passes w w' first.held now.held (lines_from 0 outcomes))
    pub emptied : (outcomes ≡ [] → ⊥) → now.held ≡ []
    pub faults_are : now.faults ≡ first.faults
    pub untouched : outcomes ≡ [] → Same

-- The lines of all connections but the last are written, and of its line the first bytes, where a
-- put of it failed so.
pub record CutsLast (first now : SinkView) (outcomes : List RelayOutcome) (fault : SinkFault)
    : Type 0 where
  pub before : List RelayOutcome
  pub last : RelayOutcome
  pub joined : outcomes ≡ before ++ last ∷ []
  pub mid : SinkView
  pub whole : Told first.written mid.written
      (λ w w'. Passes w w' first.held mid.held (lines_from 0 before))
  pub emptied : (before ≡ [] → ⊥) → mid.held ≡ []
  pub cut : Told mid.written now.written
      (λ w w'. GrowsByPrefix w w' (mid.held ++ relay_line (length before) last))
  pub counted : CountsFaults first.faults now.faults (fault ≡ sinks.Failed)

-- ---- all of it

-- by a fault of the output
abbrev pub stop_by : SinkFault → RelayFault
stop_by sinks.Failed = stops.Output
stop_by sinks.Memory = stops.Memory

module _ (x : Relay) {R K : Type 0} (seen : R × K → Ends) (most : ℕ) (n n' : Network R K)
    (o o' : SinkView) (Same : Type 0) where
  -- as many were relayed as were asked for, or no other is to come
  pub record RelaysToEnd : Type 0 where
    pub connections : List Connection
    pub last : Network R K
    pub each : RelaysEach x seen connections n last
    pub few : length connections ≤ most
    pub stopped : ((length connections ≡ most) × (n' ≡ last))
        ⊎ (HandsNone x seen last n' ⊥ × Told last.waiting n'.waiting (λ before after. after ≡ []))
    pub lines : HasLines o o' Same (outcomes_of connections)

  -- one more was asked for, and the wire failed
  pub record RelaysToFault : Type 0 where
    pub connections : List Connection
    pub last : Network R K
    pub each : RelaysEach x seen connections n last
    pub few : length connections < most
    pub fails : WireFails x seen last n'
    pub lines : HasLines o o' Same (outcomes_of connections)

  -- the line of the last one couldn't be written
  pub record RelaysToLine (fault : SinkFault) : Type 0 where
    pub connections : List Connection
    pub each : RelaysEach x seen connections n n'
    pub few : length connections ≤ most
    pub lines : CutsLast o o' (outcomes_of connections) fault

  -- What is known where connections were relayed, as many as were asked for at most, and their
  -- lines were written. Where none came, `Same` is known of the output.
  abbrev pub RelaysAll : Result ⊤ RelayFault → Type 0
  RelaysAll (Ok _) = RelaysToEnd
  RelaysAll (Err stops.Wire) = RelaysToFault
  RelaysAll (Err stops.Output) = RelaysToLine sinks.Failed
  RelaysAll (Err stops.Memory) = ((n' ≡ n) × Same) ⊎ RelaysToLine sinks.Memory
