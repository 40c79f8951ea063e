-- What was read and written where many connections are served at once: on each of them, and what is
-- left of the wire that gave them.
use Rattle.std.specs.Prelude.{◌≡◌, ℕ, ◌<◌, ◌≤◌, ◌⊎◌, All, List, [], ◌∷◌, ◌++◌, map, length, Some}
use Rattle.std.specs.Prelude.{Option}
use Rattle.io_edges.specs.{Faults.CountsFaults, Flow.Told, Wires.added_up, Wires.Network}
use Rattle.stream_loop.specs.Edges.{AreNew}
use Rattle.duplex_server.specs.{ServerStream.Answering, Served.Ends, Served.told_pair}
use Rattle.session_pool.specs.declared.pooling.{PoolReport.PoolReport, PoolWire.PoolWire}
use Rattle.session_pool.specs.declared.turns.Turns.{Turns}
use Rattle.session_pool.specs.{OwedTurns.owed_turns, Turns.ServesTurns, Turns.WritesTurns}
use Rattle.session_pool.specs.declared.pooling.PoolWire.TheVariants as wires

-- the ends of a connection when it was handed out and when it was closed, and what became of it
pub record Pooled : Type 0 where
  pub handed : Ends
  pub closed : Ends
  pub turns : Turns

-- what was taken from it and written to it, where this is told
abbrev pub moved : Pooled → Option (List ℕ) × Option (List ℕ)
moved c = (c.closed.input.taken, c.closed.sink.written)

-- a count of faults, with those that the ends of connections met, one after the other
unfoldable pub faults_along : ℕ → List Pooled → ℕ
faults_along count [] = count
faults_along count (c ∷ connections) =
    faults_along (added_up count c.closed.input.faults c.closed.sink.faults) connections

-- why no more connections were served: there are as many as were asked for, or none waits; or one
-- more was asked for, and the wire failed to give it
abbrev pub StopsAfter : {R K : Type 0} → PoolWire → (asked served : ℕ) → (n n' : Network R K)
    → Type 0
StopsAfter wires.Done asked served n n' =
    (served ≡ asked) ⊎ Told n.waiting n'.waiting (λ before after. after ≡ [])
StopsAfter wires.Failed asked served n n' = served < asked

module _ (x : Answering) (endpoint : Option (List ℕ)) (most : ℕ) where
  -- What is known of a connection whose sessions were served in turn: which of them, of what bytes,
  -- and why no more; and of all that its initiator sends, where the source tells that, what is
  -- written of it.
  pub record IsPooled (told : Option (List (List ℕ × List ℕ))) (c : Pooled) : Type 0 where
    pub begins : AreNew told c.handed.input c.handed.sink
    pub serves : ServesTurns x endpoint most c.handed.input c.closed.input c.handed.sink
        c.closed.sink c.turns
    pub written : (bytes w : List ℕ) → c.handed.input.left ≡ Some bytes
        → c.handed.sink.written ≡ Some w → (w' : List ℕ) × (c.closed.sink.written ≡ Some w')
        × WritesTurns (owed_turns x endpoint most bytes) c.handed.sink.held w w' c.turns

  -- What is known where connections were served at once, as many as were asked for at most: of
  -- each, in order of acceptance, in which they were closed too; and of the wire that gave them.
  pub record PoolsAll {R K : Type 0} (seen : R × K → Ends) (asked : ℕ) (n n' : Network R K)
      (report : PoolReport) : Type 0 where
    pub connections : List Pooled
    pub turns : report.turns ≡ map (λ (c : Pooled). c.turns) connections
    pub handed : Told n.waiting n'.waiting (λ before after. (ends : List (R × K))
        × (before ≡ ends ++ after)
        × (map seen ends ≡ map (λ (c : Pooled). c.handed) connections))
    pub served : All (IsPooled n.closed) connections
    pub closed : Told n.closed n'.closed (λ before after. (pairs : List (List ℕ × List ℕ))
        × (after ≡ before ++ pairs) × (map told_pair pairs ≡ map moved connections))
    pub end_faults : n'.end_faults ≡ faults_along n.end_faults connections
    pub out : n'.out ≡ n.out
    pub few : length connections ≤ asked
    pub stopped : StopsAfter report.wire asked (length connections) n n'
    pub counted : CountsFaults n.faults n'.faults (report.wire ≡ wires.Failed)
