-- How far the reading of a stream has come, and how it stopped: what was read of it, and which of
-- its events were handled.
use Rattle.std.specs.Prelude.{◌≡◌, ℕ, ◌≤◌, Bool, true, ◌⊎◌, List, [], ◌∷◌, ◌++◌, length, Some}
use Rattle.std.specs.Prelude.{None, Option}
use Rattle.io_edges.specs.{Faults.one_more, Flow.Told}
use Rattle.unit_streams.specs.{Going.IsOpenAt, Going.IsPending, Grammar.Grammar}
use Rattle.unit_streams.specs.Judging.{events_of}
use Rattle.stream_loop.specs.declared.resuming.ReadOn.{ReadOn}
use Rattle.stream_loop.specs.declared.resuming.ReadOn.TheVariants.{Halted, Judged, Memory}
use Rattle.stream_loop.specs.declared.resuming.ReadOn.TheVariants.{ReadFault}
use Rattle.stream_loop.specs.{Edges.Input, Followed.AreFirst, Followed.EndsWell, Followed.IsWhole}

-- with an event behind them, where there is one
abbrev pub then_at : {E : Type 0} → List E → Option E → List E
then_at events None = events
then_at events (Some event) = events ++ event ∷ []

module _ {Z U E R : Type 0} (g : Grammar Z U E R) (i i' : Input) where
  -- These bytes of a stream came from an input that was like i before the first of them and is like
  -- i' now: whole pieces, of which no prefix is refused or ends the stream, and at most one piece
  -- after them.
  pub record Came (before piece : List ℕ) : Type 0 where
    pub pending : IsPending g before
    pub short : length piece ≤ 65536
    pub stream : Told i.left i'.left (λ all rest. all ≡ before ++ piece ++ rest)
    pub took : Told i.taken i'.taken (λ t t'. t' ≡ t ++ before ++ piece)

  -- no take gave nothing
  abbrev pub NoEmptyTake : Type 0
  NoEmptyTake = i'.empty_takes ≡ i.empty_takes

  -- of the pieces of a stream, the last of which is this: all that was to come has come, and one
  -- take gave nothing
  pub record IsOver (piece : List ℕ) : Type 0 where
    pub nothing : piece ≡ []
    pub over : Told i.left i'.left (λ all rest. rest ≡ [])
    pub once : i'.empty_takes ≡ one_more i.empty_takes

  -- The reading has come to p, and y is buffered. An end that stands so has read p, of which no
  -- shorter prefix is refused or ends the stream. Its events were handled: those of the pieces that
  -- came before the last pause, and the others since then.
  pub record HasComeTo (stands : List ℕ → Type 0) (Handled : List E → List E → Type 0)
      (p y : List ℕ) : Type 0 where
    pub stands_for : stands p
    pub on : IsOpenAt g p
    pub before : List ℕ
    pub piece : List ℕ
    pub came : Came before piece
    pub joined : before ++ piece ≡ p ++ y
    pub since : List E
    pub events_are : events_of g p ≡ events_of g before ++ since
    pub handled : Handled (events_of g before) since
    pub no_empty_take : NoEmptyTake

  -- The stream was judged: by the end of the input, or however it goes on. Where it ended well, y
  -- is buffered behind what was read of it.
  pub record WasJudged (Handled : List E → List E → Type 0) (y : List ℕ) (judged : Option R)
      : Type 0 where
    pub before : List ℕ
    pub piece : List ℕ
    pub came : Came before piece
    pub since : List E
    pub handled : Handled (events_of g before) since
    pub whole : IsWhole g (events_of g before ++ since) judged (before ++ piece)
    pub settled : IsOver piece
        ⊎ (((more : List ℕ) → IsWhole g (events_of g before ++ since) judged
        ((before ++ piece) ++ more)) × NoEmptyTake)
    pub left : judged ≡ None → (read : List ℕ) × (before ++ piece ≡ read ++ y)
        × EndsWell g read ((y ≡ []) × IsOver piece)

  -- A read failed behind these pieces, whose events were handled. What was due for them has left.
  pub record WasCut (Handled : List E → List E → Type 0) (Waits : Type 0) : Type 0 where
    pub before : List ℕ
    pub came : Came before []
    pub handled : Handled (events_of g before) []
    pub waits : Waits
    pub no_empty_take : NoEmptyTake

  -- memory ran out, where these events had been handled
  pub record RanOut (Handled : List E → List E → Type 0) : Type 0 where
    pub before : List ℕ
    pub piece : List ℕ
    pub came : Came before piece
    pub since : List E
    pub handled : Handled (events_of g before) since
    pub first : (more : List ℕ)
        → AreFirst g (events_of g before ++ since) ((before ++ piece) ++ more)
    pub no_empty_take : NoEmptyTake

  -- The handler stopped the reading: behind an event or before more was taken. An end that stands
  -- so has read the bytes up to there, and y is buffered. The stream goes on, or that event ends it.
  pub record WasHalted (ends : E → Bool) (stands : List ℕ → Type 0)
      (Halts : Option E → List E → List E → Type 0) (y : List ℕ) : Type 0 where
    pub before : List ℕ
    pub piece : List ℕ
    pub came : Came before piece
    pub since : List E
    pub at : Option E
    pub halted : Halts at (events_of g before) since
    pub first : (more : List ℕ)
        → AreFirst g (then_at (events_of g before ++ since) at) ((before ++ piece) ++ more)
    pub read : List ℕ
    pub joined : before ++ piece ≡ read ++ y
    pub stands_for : stands read
    pub events_are : events_of g read ≡ then_at (events_of g before ++ since) at
    pub goes_on : IsOpenAt g read
        ⊎ (((last : E) × (at ≡ Some last) × (ends last ≡ true))
        × ((more : List ℕ) → IsWhole g (events_of g read) None ((before ++ piece) ++ more)))
    pub no_empty_take : NoEmptyTake

  -- what was read and handled, however that ended
  abbrev pub ReadsOn : {H : Type 0} → (ends : E → Bool) → (stands : List ℕ → Type 0)
      → (Handled : List E → List E → Type 0) → (Halts : H → Option E → List E → List E → Type 0)
      → (Waits : Type 0) → (y : List ℕ) → ReadOn R H → Type 0
  ReadsOn ends stands Handled Halts Waits y (Judged judged) = WasJudged Handled y judged
  ReadsOn ends stands Handled Halts Waits y ReadFault = WasCut Handled Waits
  ReadsOn ends stands Handled Halts Waits y Memory = RanOut Handled
  ReadsOn ends stands Handled Halts Waits y (Halted halt) = WasHalted ends stands (Halts halt) y
