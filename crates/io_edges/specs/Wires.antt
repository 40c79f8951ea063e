-- What a wire hands out and closes.
use Rattle.std.specs.Prelude.{◌≡◌, ℕ, ◌+◌, ◌-◌, ◌^◌, min, false, List, [], IfSome, Some, None, Option}
use Rattle.io_edges.specs.{InMemory.PlannedSink, InMemory.PlannedSource, Plan.new_plan, Plan.Plan}

-- two counts and one before, up to their last value
abbrev pub added_up : ℕ → ℕ → ℕ → ℕ
added_up before a b = min (before + a + b) (2 ^ 64 - 1)

-- what an end tells where nothing moved yet; it tells where the wire does
abbrev pub Fresh : {X : Type 0} → Option X → Option (List ℕ) → Type 0
Fresh None told = IfSome told (λ l. l ≡ [])
Fresh (Some closed) told = told ≡ Some []

-- what is seen of a wire at one moment: the connections to come and what was taken from and written
-- to each ended one, where these are told; how many connections are handed out and not closed; and
-- how many faults its calls met, and the ends of ended connections
pub record Network (R K : Type 0) : Type 0 where
  pub waiting : Option (List (R × K))
  pub closed : Option (List (List ℕ × List ℕ))
  pub out : ℕ
  pub faults : ℕ
  pub end_faults : ℕ

abbrev pub network_at : {W R K : Type 0} → (waiting : W → Option (List (R × K)))
    → (closed : W → Option (List (List ℕ × List ℕ))) → (out faults end_faults : W → ℕ) → W
    → Network R K
network_at waiting closed out faults end_faults wire = record {
  waiting = waiting wire;
  closed = closed wire;
  out = out wire;
  faults = faults wire;
  end_faults = end_faults wire;
}

-- a wire in memory
pub record PlannedWire : Type 0 where
  pub waiting : List (PlannedSource × PlannedSink)
  pub closed : List (List ℕ × List ℕ)
  pub out : ℕ
  pub end_faults : ℕ
  pub plan : Plan

-- nothing moved through the ends, they met no fault, and the writing isn't ended
pub record Untouched (ends : PlannedSource × PlannedSink) : Type 0 where
  pub taken : ends.0.tape.taken ≡ []
  pub written : ends.1.written ≡ []
  pub reads : ends.0.plan.faults ≡ 0
  pub writes : ends.1.plan.faults ≡ 0
  pub unended : ends.1.ended ≡ false

-- what an ended connection leaves
abbrev pub pair_of : PlannedSource × PlannedSink → List ℕ × List ℕ
pair_of ends = (ends.0.tape.taken, ends.1.written)

-- before the first call
abbrev pub new_wire : List (PlannedSource × PlannedSink) → List ℕ → PlannedWire
new_wire ends failing = record {
  waiting = ends;
  closed = [];
  out = 0;
  end_faults = 0;
  plan = new_plan failing;
}
