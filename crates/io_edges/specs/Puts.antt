-- What is put to a sink, in one call or in several.
use Rattle.std.specs.Prelude.{◌≡◌, ℕ, true, List, [], ◌++◌, take, IfOk, OnOk, OnErr}
use Rattle.std.specs.Prelude.{Result, IsErrOf}
use Rattle.io_edges.specs.declared.SinkFault.{SinkFault, TheVariants.Failed, TheVariants.Memory}
use Rattle.io_edges.specs.{Faults.CountsFaults, Flow.GrowsByPrefix, Flow.Passes, Flow.Told}
use Rattle.io_edges.specs.{Gathering.with_room, Views.HoldsNothing, Views.SinkView}

-- the bytes were put to a sink that was like the old one, as one put of them puts them, and it is
-- like the new one now
pub record Puts (old new : SinkView) (bytes : List ℕ) (result : Result (Unit {0}) SinkFault)
    : Type 0 where
  pub written : OnOk result (Told old.written new.written
      (λ w w'. Passes w w' old.held new.held bytes))
  pub refused : OnErr result (Told old.written new.written
      (λ w w'. GrowsByPrefix w w' (old.held ++ bytes)))
  pub dropped : OnErr result (new.held ≡ [])
  pub unheld : HoldsNothing old → new.held ≡ []
  pub counted : CountsFaults old.faults new.faults (IsErrOf result Failed)
  pub memory : IsErrOf result Memory → old.may_run_out ≡ true
  pub same_memory : new.may_run_out ≡ old.may_run_out
  pub same_holding : new.may_hold ≡ old.may_hold

-- first bytes of these were put as one put of them puts them; or none, and the call failed
pub record PutsSome (old new : SinkView) (bytes : List ℕ) (result : Result ℕ SinkFault) : Type 0
  where
    pub written : IfOk result (λ n. Told old.written new.written
        (λ w w'. Passes w w' old.held new.held (take n bytes)))
    pub refused : OnErr result (Told old.written new.written (λ w w'. GrowsByPrefix w w' old.held))
    pub dropped : OnErr result (new.held ≡ [])
    pub unheld : HoldsNothing old → new.held ≡ []
    pub counted : CountsFaults old.faults new.faults (IsErrOf result Failed)
    pub memory : IsErrOf result Memory → old.may_run_out ≡ true
    pub same_memory : new.may_run_out ≡ old.may_run_out
    pub same_holding : new.may_hold ≡ old.may_hold

-- bytes were added behind those in a room, which stand behind what such a sink holds
abbrev pub Adds : (old new : SinkView) → (room room' : List ℕ) → List ℕ
    → Result (Unit {0}) SinkFault → Type 0
Adds old new room room' bytes result =
    Puts (with_room room old) (with_room room' new) bytes result

-- first bytes of these were added so
abbrev pub AddsSome : (old new : SinkView) → (room room' : List ℕ) → List ℕ → Result ℕ SinkFault
    → Type 0
AddsSome old new room room' bytes result =
    PutsSome (with_room room old) (with_room room' new) bytes result
