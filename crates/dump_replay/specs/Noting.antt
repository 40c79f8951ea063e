-- What is written of a note.
use Rattle.std.specs.Prelude.{◌≡◌, ℕ, ◌≤◌, false, ◌⊎◌, List, [], ◌++◌}
use Rattle.io_edges.specs.{Faults.Rose, Flow.GrowsByPrefix, Flow.Told, Views.SinkView}

-- a note of this text was put, where it has any, of which the first bytes are written, or all where
-- the notes met no fault and don't run out of memory
pub record Notes (old new : SinkView) (text : List ℕ) : Type 0 where
  pub grows : Told old.written new.written (λ w w'. GrowsByPrefix w w' (old.held ++ text))
  pub whole : old.may_run_out ≡ false → (Rose old.faults new.faults → ⊥)
      → Told old.written new.written (λ w w'. (w' ≡ w ++ old.held ++ text) ⊎ (text ≡ []))
  pub faults : old.faults ≤ new.faults
