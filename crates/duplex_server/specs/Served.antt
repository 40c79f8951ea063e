-- What was read and written where connections are served one after the other: on each of them, and
-- what is left of the wire that gave them and of the output of their lines.
use Rattle.std.specs.Prelude.{◌≡◌, ℕ, ◌<◌, ◌≤◌, ◌⊎◌, List, [], ◌∷◌, ◌++◌, map, length, Some, Ok}
use Rattle.std.specs.Prelude.{Err, All, Option, Result, ⊤}
use Rattle.io_edges.specs.{declared.SinkFault.SinkFault, Flow.GrowsByPrefix, Flow.Told}
use Rattle.io_edges.specs.Faults.{CountsFaults, Rose}
use Rattle.io_edges.specs.Wires.{added_up, Network}
use Rattle.stream_loop.specs.declared.outbound.Outbound.{TheVariants.WriteFault}
use Rattle.stream_loop.specs.Edges.{AreNew, Input, input_at}
use Rattle.duplex_server.specs.declared.outcome.{Inbound.TheVariants.ReadFault, Outcome.Outcome}
use Rattle.duplex_server.specs.declared.stopping.ServeFault.{ServeFault}
use Rattle.duplex_server.specs.Lines.{connection_line, lines_from}
use Rattle.duplex_server.specs.{ServerStream.Answering, Serving.Serves}
use Rattle.io_edges.specs.Views.{SinkView}
use Rattle.io_edges.specs.declared.SinkFault.TheVariants as sinks
use Rattle.duplex_server.specs.declared.stopping.ServeFault.TheVariants as stops

-- ---- what is seen at one moment

-- of the ends of a connection: the source and the sink
pub record Ends : Type 0 where
  pub input : Input
  pub sink : SinkView

abbrev pub ends_at : {R K : Type 0} → (left taken : R → Option (List ℕ))
    → (reads empty_takes : R → ℕ) → (view : K → SinkView) → R × K → Ends
ends_at left taken reads empty_takes view ends = record {
  input = input_at left taken reads empty_takes ends.0;
  sink = view ends.1;
}

-- ---- a connection

-- the ends of a connection when it was handed out and when it was closed, and what became of it
pub record Connection : Type 0 where
  pub handed : Ends
  pub closed : Ends
  pub outcome : Outcome

-- what was taken from it and written to it, where this is told
abbrev pub moved : Connection → Option (List ℕ) × Option (List ℕ)
moved c = (c.closed.input.taken, c.closed.sink.written)

abbrev pub told_pair : List ℕ × List ℕ → Option (List ℕ) × Option (List ℕ)
told_pair pair = (Some pair.0, Some pair.1)

-- a count of faults, with those that its ends met
abbrev pub with_faults : ℕ → Connection → ℕ
with_faults count c = added_up count c.closed.input.faults c.closed.sink.faults

module _ (x : Answering) (endpoint : Option (List ℕ)) where
  -- What is known of a connection that was served, to the Via that is served alone or to any.
  -- Where a read or a write failed, its ends met a fault, so they add to any count of faults.
  pub record IsServed (told : Option (List (List ℕ × List ℕ))) (c : Connection) : Type 0 where
    pub begins : AreNew told c.handed.input c.handed.sink
    pub serves : Serves x endpoint c.handed.input c.closed.input c.handed.sink c.closed.sink
        c.outcome
    pub read_fault : (count : ℕ) → c.outcome.inbound ≡ ReadFault
        → Rose count (with_faults count c)
    pub write_fault : (count : ℕ) → c.outcome.outbound ≡ WriteFault
        → Rose count (with_faults count c)
    pub nothing_held : c.closed.sink.held ≡ []

-- ---- connections, one after the other

-- a count of faults, with those that the ends of connections met
unfoldable pub faults_along : ℕ → List Connection → ℕ
faults_along count [] = count
faults_along count (c ∷ connections) = faults_along (with_faults count c) connections

module _ (x : Answering) (endpoint : Option (List ℕ)) {R K : Type 0} (seen : R × K → Ends) where
  -- A wire has handed out these connections, in this order. Each was served, and is closed.
  pub record ServesEach (connections : List Connection) (n n' : Network R K) : Type 0 where
    pub handed : Told n.waiting n'.waiting (λ before after. (ends : List (R × K))
        × (before ≡ ends ++ after)
        × (map seen ends ≡ map (λ (c : Connection). c.handed) connections))
    pub served : All (IsServed x endpoint n.closed) connections
    pub closed : Told n.closed n'.closed (λ before after. (pairs : List (List ℕ × List ℕ))
        × (after ≡ before ++ pairs) × (map told_pair pairs ≡ map moved connections))
    pub end_faults : n'.end_faults ≡ faults_along n.end_faults connections
    pub out : n'.out ≡ n.out

-- ---- their lines

-- the lines of all connections are written, behind what was held; where there were none, nothing is
abbrev pub WritesAll : (held : List ℕ) → List Outcome → (w w' : List ℕ) → Type 0
WritesAll held [] w w' = w' ≡ w
WritesAll held (outcome ∷ outcomes) w w' = w' ≡ w ++ held ++ lines_from 0 (outcome ∷ outcomes)

-- what is held behind the lines of connections
abbrev pub held_behind : (held : List ℕ) → List Outcome → List ℕ
held_behind held [] = held
held_behind held (outcome ∷ outcomes) = []

-- the lines of all connections but the last are written, and of the last's the first bytes
pub record CutsLast (held : List ℕ) (outcomes : List Outcome) (w w' : List ℕ) : Type 0 where
  pub before : List Outcome
  pub last : Outcome
  pub joined : outcomes ≡ before ++ last ∷ []
  pub mid : List ℕ
  pub whole : WritesAll held before w mid
  pub cut : GrowsByPrefix mid w'
      (held_behind held before ++ connection_line (length before) last)

-- what is written, by why the server stopped
abbrev pub WritesLines : Result ⊤ ServeFault → (held : List ℕ) → List Outcome → (w w' : List ℕ)
    → Type 0
WritesLines (Ok _) held outcomes w w' = WritesAll held outcomes w w'
WritesLines (Err stops.Wire) held outcomes w w' = WritesAll held outcomes w w'
WritesLines (Err stops.Output) held outcomes w w' = CutsLast held outcomes w w'
WritesLines (Err stops.Memory) held outcomes w w' =
    ((outcomes ≡ []) × (w' ≡ w)) ⊎ CutsLast held outcomes w w'

-- ---- all of it

-- by a fault of the output
abbrev pub stop_by : SinkFault → ServeFault
stop_by sinks.Failed = stops.Output
stop_by sinks.Memory = stops.Memory

-- Why no more connections were served: there were as many as were asked for, or no other is to
-- come; or one more was asked for, and the wire failed to give it; or something else failed.
abbrev pub StopsAfter : {R K : Type 0} → Result ⊤ ServeFault → (most served : ℕ)
    → (n n' : Network R K) → Type 0
StopsAfter (Ok _) most served n n' =
    (served ≡ most) ⊎ Told n.waiting n'.waiting (λ before after. after ≡ [])
StopsAfter (Err stops.Wire) most served n n' = served < most
StopsAfter (Err stops.Output) most served n n' = ⊤
StopsAfter (Err stops.Memory) most served n n' = ⊤

-- What is known where connections were served, as many as were asked for at most, and their lines
-- were written. Where none came, `Same` is known of the output.
pub record ServesAll (x : Answering) (endpoint : Option (List ℕ)) {R K : Type 0}
    (seen : R × K → Ends) (most : ℕ) (n n' : Network R K) (o o' : SinkView) (Same : Type 0)
    (result : Result ⊤ ServeFault) : Type 0 where
  pub connections : List Connection
  pub each : ServesEach x endpoint seen connections n n'
  pub few : length connections ≤ most
  pub stopped : StopsAfter result most (length connections) n n'
  pub wire_counted : CountsFaults n.faults n'.faults (result ≡ Err stops.Wire)
  pub lines : Told o.written o'.written
      (WritesLines result o.held (map (λ (c : Connection). c.outcome) connections))
  pub held : o'.held ≡ held_behind o.held (map (λ (c : Connection). c.outcome) connections)
  pub untouched : connections ≡ [] → Same
  pub output_counted : CountsFaults o.faults o'.faults (result ≡ Err stops.Output)
