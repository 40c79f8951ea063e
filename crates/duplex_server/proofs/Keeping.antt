-- What is known of a session whose first bytes were carried, where all that stands behind them is
-- known.
use Rattle.std.proofs.Common.{◌≡◌, ℕ, List, ◌++◌, Some, None, Option, sym, refl, subst}
use Rattle.io_edges.specs.Flow.{Told}
use Rattle.stream_loop.specs.{Edges.Input, Followed.WasTaken}
use Rattle.duplex_server.specs.declared.outcome.Outcome.{Outcome}
use Rattle.duplex_server.specs.{Carrying.ServesKept, ServerStream.Answering, ServerStream.owed}
use Rattle.duplex_server.specs.Serving.{Judges, WritesOwed}
use Rattle.io_edges.specs.Views.{SinkView}

-- an input that is known to give these bytes, with those that were taken from it before
abbrev pub with_held : (held bytes : List ℕ) → Input → Input
with_held held bytes i = record i { left = Some (held ++ bytes); taken = None }

pub held_taken : (held bytes : List ℕ) (i : Input) → i.left ≡ Some bytes
    → WasTaken held (with_held held bytes i) i
held_taken held bytes i left = record {
  stream = subst (λ (now : Option (List ℕ)). Told (Some (held ++ bytes)) now
      (λ all rest. all ≡ held ++ rest)) (sym left) refl;
  took = tt;
  faults = refl;
  empty_takes = refl;
}

-- where what that input gives is known, so is how the session was judged, and what was written
pub record IsKnown (x : Answering) (endpoint : Option (List ℕ)) (i : Input) (held : List ℕ)
    (first now : SinkView) (outcome : Outcome) : Type 0 where
  pub judged : (bytes : List ℕ) → i.left ≡ Some bytes
      → Judges x endpoint (held ++ bytes) outcome.inbound
  pub written : (bytes w : List ℕ) → i.left ≡ Some bytes → first.written ≡ Some w
      → (w' : List ℕ) × (now.written ≡ Some w')
      × WritesOwed (owed x endpoint (held ++ bytes)) first.held w w' outcome.inbound
      outcome.outbound

pub known : (x : Answering) (endpoint : Option (List ℕ)) (i i' : Input) (held held' : List ℕ)
    (first now : SinkView) (outcome : Outcome) {carried : List ℕ} → carried ≡ held
    → ServesKept x endpoint i i' carried held' first now outcome
    → IsKnown x endpoint i held first now outcome
known x endpoint i i' held held' first now outcome same served =
    let h = subst (λ (l : List ℕ). ServesKept x endpoint i i' l held' first now outcome) same
    served in
    record {
      judged = λ bytes left. (h.serves (with_held held bytes i) (held_taken held bytes i
          left)).judged (held ++ bytes) refl;
      written = λ bytes w left told. (h.serves (with_held held bytes i) (held_taken held bytes i
          left)).written (held ++ bytes) w refl told;
    }
