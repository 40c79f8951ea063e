-- What has been served so far, for private calls.
use Rattle.std.specs.Prelude.{◌≡◌, ℕ, List, [], ◌∷◌, ◌++◌, map, length, Some, None, Ok, Err, Option}
use Rattle.std.specs.Prelude.{Result, ⊤}
use Rattle.io_edges.specs.{declared.Failed.Failed, Faults.CountsFaults, Flow.Told, Wires.Network}
use Rattle.duplex_server.specs.{declared.outcome.Outcome.Outcome, ServerStream.Answering}
use Rattle.duplex_server.specs.Served.{Connection, Ends, held_behind, IsServed, moved}
use Rattle.duplex_server.specs.Served.{ServesEach, told_pair, with_faults, WritesAll}
use Rattle.io_edges.specs.Views.{SinkView}

module _ (x : Answering) (endpoint : Option (List ℕ)) {R K : Type 0} (seen : R × K → Ends)
    (n n' : Network R K) where
  -- one more connection was handed out and served, and is closed
  pub record ServesOne (c : Connection) : Type 0 where
    pub handed : Told n.waiting n'.waiting (λ before after. (ends : R × K)
        × (before ≡ ends ∷ after) × (seen ends ≡ c.handed))
    pub served : IsServed x endpoint n.closed c
    pub closed : Told n.closed n'.closed (λ before after. (pair : List ℕ × List ℕ)
        × (after ≡ before ++ pair ∷ []) × (told_pair pair ≡ moved c))
    pub end_faults : n'.end_faults ≡ with_faults n.end_faults c
    pub out : n'.out ≡ n.out
    pub faults : n'.faults ≡ n.faults

  -- no connection was handed out
  pub record ServesNone (failed : Type 0) : Type 0 where
    pub waiting : Told n.waiting n'.waiting (λ before after. after ≡ before)
    pub closed : n'.closed ≡ n.closed
    pub end_faults : n'.end_faults ≡ n.end_faults
    pub out : n'.out ≡ n.out
    pub counted : CountsFaults n.faults n'.faults failed

  -- by the answer of the call that asked for one
  abbrev pub ServesNext : Result (Option Outcome) Failed → Type 0
  ServesNext (Ok None) =
      ServesNone ⊥ × Told n.waiting n'.waiting (λ before after. after ≡ [])
  ServesNext (Ok (Some outcome)) =
      (c : Connection) × (c.outcome ≡ outcome) × ServesOne c
  ServesNext (Err failed) = ServesNone ⊤

-- The lines of these connections are written to a sink, which was like the first and is like this
-- now. Where there were none, `Same` is known of it.
pub record HasLines (first now : SinkView) (Same : Type 0) (outcomes : List Outcome) : Type 0 where
  pub lines : Told first.written now.written (WritesAll first.held outcomes)
  pub held_is : now.held ≡ held_behind first.held outcomes
  pub faults_are : now.faults ≡ first.faults
  pub untouched : outcomes ≡ [] → Same

-- so many connections were served, and their lines are written
pub record IsAlong (x : Answering) (endpoint : Option (List ℕ)) {R K : Type 0} (seen : R × K → Ends)
    (n n' : Network R K) (first now : SinkView) (Same : Type 0) (count : ℕ) : Type 0 where
  pub connections : List Connection
  pub counted : length connections ≡ count
  pub each : ServesEach x endpoint seen connections n n'
  pub faults_are : n'.faults ≡ n.faults
  pub lines : HasLines first now Same (map (λ (c : Connection). c.outcome) connections)
