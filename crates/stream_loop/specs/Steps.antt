-- What comes of the bytes that are left.
use Rattle.std.specs.Prelude.{◌≡◌, ℕ, ◌<◌, Bool, List, [], ◌++◌, length, Option}
use Rattle.unit_streams.specs.{Going.IsPending, Grammar.Grammar}
use Rattle.stream_loop.specs.declared.resuming.Step.{Step}
use Rattle.stream_loop.specs.declared.resuming.Step.TheVariants.{AllRead, Halted, Handled, Judged}
use Rattle.stream_loop.specs.declared.resuming.Step.TheVariants.{Memory}
use Rattle.stream_loop.specs.Edges.{Input}
use Rattle.stream_loop.specs.Resumed.{HasComeTo, RanOut, WasHalted, WasJudged}

module _ {Z U E R : Type 0} (g : Grammar Z U E R) (stands : List ℕ → Type 0)
    (HandledSo : List E → List E → Type 0) where
  -- an event was handled, behind some more bytes
  pub record HandlesOne (i i' : Input) (p y' : List ℕ) : Type 0 where
    pub read : List ℕ
    pub more : length p < length read
    pub come : HasComeTo g i i' stands HandledSo read y'

  -- all bytes were read
  pub record ReadsAll (i i' : Input) (p y y' : List ℕ) : Type 0 where
    pub nothing : y' ≡ []
    pub pending : IsPending g (p ++ y)
    pub come : HasComeTo g i i' stands HandledSo (p ++ y) []

  -- by the step: where p was read, and y was buffered
  abbrev pub Handles : {H : Type 0} → (ends : E → Bool) → (Halts : H → Option E → List E → List E → Type 0)
      → (i i' : Input) → (p y y' : List ℕ) → Step R H → Type 0
  Handles ends Halts i i' p y y' Handled = HandlesOne i i' p y'
  Handles ends Halts i i' p y y' AllRead = ReadsAll i i' p y y'
  Handles ends Halts i i' p y y' (Judged judged) = WasJudged g i i' HandledSo y' judged
  Handles ends Halts i i' p y y' Memory = RanOut g i i' HandledSo
  Handles ends Halts i i' p y y' (Halted halt) = WasHalted g i i' ends stands (Halts halt) y'
