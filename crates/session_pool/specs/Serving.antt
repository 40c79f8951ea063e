-- Connections that are being served, each on a thread of its own or not.
use Rattle.std.specs.Prelude.{◌≡◌, ℕ, ◌≤◌, ◌+◌, All, List, [], ◌∷◌, ◌++◌, length, map, Option}
use Rattle.io_edges.specs.{Faults.CountsFaults, Flow.Told, Views.SinkView, Wires.Network}
use Rattle.stream_reader.specs.Sides.{endpoint_of}
use Rattle.stream_loop.specs.Edges.{AreNew, input_at}
use Rattle.action_dispatch.specs.Answers.{Serves}
use Rattle.duplex_server.specs.declared.connection.Server.{Server}
use Rattle.duplex_server.specs.{ServerStream.answering, Served.Ends, Served.ends_at}
use Rattle.duplex_server.specs.Served.{told_pair}
use Rattle.session_pool.specs.declared.pooling.PoolWire.{PoolWire}
use Rattle.session_pool.specs.declared.turning.Turning.{Turning}
use Rattle.session_pool.specs.declared.turns.Turns.{Turns}
use Rattle.session_pool.specs.Pooling.{faults_along, IsPooled, moved, Pooled, StopsAfter}
use Rattle.session_pool.specs.Turns.{ServesTurns}
use Rattle.session_pool.specs.declared.pooling.PoolWire.TheVariants as wires
use Rattle.session_pool.specs.declared.turning.Turning.TheVariants as turnings

module _ {V S K : Type 0} (serves : V → Serves) (left taken : S → Option (List ℕ))
    (faults empty_takes : S → ℕ) (view : K → SinkView) (server : Server V) (most : ℕ) where
  -- the sessions of the connection with these ends are being served so
  abbrev pub IsServing : S × K → Turning V S K → Type 0
  IsServing ends (turnings.Beside handle) = (handle.promise.statics.value ≡ server.statics.now)
      × (handle.promise.quotas.value ≡ server.quotas.now)
      × (handle.promise.endpoint.value ≡ server.endpoint.now)
      × (handle.promise.service.value ≡ server.service.now) × (handle.promise.most ≡ most)
      × (handle.promise.source.value ≡ ends.0) × (handle.promise.sink.value ≡ ends.1)
  IsServing ends (turnings.Here turned) = ServesTurns (answering (serves server.service.now)
      server.statics.now server.quotas.now) (endpoint_of server.endpoint.now) most
      (input_at left taken faults empty_takes ends.0)
      (input_at left taken faults empty_takes turned.1) (view ends.1) (view turned.2) turned.0

  -- the same of connections, one by one
  unfoldable pub AreServing : List (S × K) → List (Turning V S K) → Type 0
  AreServing [] turnings = turnings ≡ []
  AreServing (one ∷ ends) turnings = (turning : Turning V S K) × (more : List (Turning V S K))
      × (turnings ≡ turning ∷ more) × IsServing one turning × AreServing ends more

-- These connections were handed out by a wire, and none of them is closed yet.
pub record Hands {R K : Type 0} (seen : R × K → Ends) (ends : List (R × K)) (n n' : Network R K)
    : Type 0 where
  pub handed : Told n.waiting n'.waiting (λ before after. before ≡ ends ++ after)
  pub new : All (λ (one : R × K). AreNew n.closed (seen one).input (seen one).sink) ends
  pub out : n'.out ≡ n.out + length ends
  pub closed : n'.closed ≡ n.closed
  pub end_faults : n'.end_faults ≡ n.end_faults

module _ {V S K : Type 0} (serves : V → Serves) (left taken : S → Option (List ℕ))
    (faults empty_takes : S → ℕ) (view : K → SinkView) (server : Server V) (most : ℕ) where
  abbrev pub seen : S × K → Ends
  seen = ends_at left taken faults empty_takes view

  -- connections were handed out, as many as were asked for at most, and are being served
  pub record Accepts (asked : ℕ) (n n' : Network S K) (turnings : List (Turning V S K))
      (wire : PoolWire) : Type 0 where
    pub ends : List (S × K)
    pub hands : Hands seen ends n n'
    pub serving : AreServing serves left taken faults empty_takes view server most ends turnings
    pub few : length ends ≤ asked
    pub stopped : StopsAfter wire asked (length ends) n n'
    pub counted : CountsFaults n.faults n'.faults (wire ≡ wires.Failed)

  -- connections with these ends were served, and are closed
  pub record Closes (ends : List (S × K)) (told : Option (List (List ℕ × List ℕ)))
      (n n' : Network S K) (list : List Turns) : Type 0 where
    pub connections : List Pooled
    pub turns : list ≡ map (λ (c : Pooled). c.turns) connections
    pub handed : map seen ends ≡ map (λ (c : Pooled). c.handed) connections
    pub served : All (IsPooled (answering (serves server.service.now) server.statics.now
        server.quotas.now) (endpoint_of server.endpoint.now) most told) connections
    pub closed : Told n.closed n'.closed (λ before after. (pairs : List (List ℕ × List ℕ))
        × (after ≡ before ++ pairs) × (map told_pair pairs ≡ map moved connections))
    pub end_faults : n'.end_faults ≡ faults_along n.end_faults connections
    pub out : n.out ≡ n'.out + length ends
    pub waiting : n'.waiting ≡ n.waiting
    pub faults_are : n'.faults ≡ n.faults
