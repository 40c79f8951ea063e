-- How the report of a call ends, for private calls.
use Rattle.std.specs.Prelude.{◌≡◌, ℕ, List, [], OnOk, Result, ⊤}
use Rattle.io_edges.specs.declared.SinkFault.{SinkFault}
use Rattle.stream_loop.specs.declared.outbound.Outbound.{Outbound, TheVariants.Done}
use Rattle.stream_loop.specs.Writing.{outbound_by}
use Rattle.io_edges.specs.Views.{SinkView}
use Rattle.io_edges.specs.Puts.{Puts}

module _ (line : List ℕ) where
  -- where the report was all written, a line was put behind it and is written too, or the writing
  -- ended at that; else nothing was put
  pub record Finishes (report report' : Outbound) (old new : SinkView) : Type 0 where
    pub goes : report ≡ Done → (answer : Result ⊤ SinkFault)
        × Puts old new line answer
        × (report' ≡ outbound_by answer) × OnOk answer (new.held ≡ [])
    pub stays : (report ≡ Done → ⊥) → report' ≡ report
    pub untouched : (report ≡ Done → ⊥) → new ≡ old
