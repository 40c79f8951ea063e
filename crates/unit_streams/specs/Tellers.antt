-- What is told of a stream: a fold over its history, by a state that each event moves.
use Rattle.std.specs.Prelude.{◌≡◌, ℕ, List, [], ◌∷◌, ◌++◌, take, Bool, true, false, Option, Some}
use Rattle.std.specs.Prelude.{None}
use Rattle.unit_streams.specs.Grammar.{Grammar, IsReadable, IsQuietWhenOver, TellsItsEnd}
use Rattle.unit_streams.specs.Judging.{History, history, events, events_of, offence, ending_at}
use Rattle.unit_streams.specs.Judging.{Answer, goes_on, completes, offends, answer}
use Rattle.unit_streams.specs.Going.{IsPending, IsOpenAt}

-- of events in E and refusals in R, by states in S
pub record Teller (S E R : Type 0) : Type 0 where
  -- before the first event
  pub start : S
  -- what is told of an event
  pub told : S → E → List ℕ
  -- the state behind it
  pub next : S → E → S
  -- what is told at last: of what refuses the stream, or that nothing does
  pub ends : S → Option R → List ℕ

module _ {S E R : Type 0} (t : Teller S E R) where
  -- what is told of events
  unfoldable pub told_along : S → List E → List ℕ
  told_along s [] = []
  told_along s (e ∷ events) = t.told s e ++ told_along (t.next s e) events

  -- the state behind them
  unfoldable pub state_behind : S → List E → S
  state_behind s [] = s
  state_behind s (e ∷ events) = state_behind (t.next s e) events

  -- what is told of a history
  abbrev pub told_of_history : S → History E R → List ℕ
  told_of_history s h = told_along s h.events ++ t.ends (state_behind s h.events) h.offence

module _ {Z U E R S : Type 0} (g : Grammar Z U E R) (t : Teller S E R) where
  -- the report of a stream
  unfoldable pub report : List ℕ → List ℕ
  report stream = told_of_history t t.start (history g stream)

  -- what is told of the bytes so far
  unfoldable pub told_so_far : List ℕ → List ℕ
  told_so_far bytes = told_along t t.start (events_of g bytes)

  -- the state behind them
  unfoldable pub state_at : List ℕ → S
  state_at bytes = state_behind t t.start (events_of g bytes)

-- a grammar's streams are closed by the events that end them, which come without a refusal
pub record Closes {Z U E R : Type 0} (g : Grammar Z U E R) (ends : E → Bool) : Type 0 where
  pub readable : IsReadable g
  pub quiet : IsQuietWhenOver g
  pub tells : TellsItsEnd g ends
  pub unrefused : (z : Z) (from to : ℕ) (u : U) (e : E) → g.completed z from to u ≡ Some e
      → ends e ≡ true → g.refused z from u ≡ None

-- an event that isn't the last leaves the stream open
abbrev pub StaysOpen : {Z U E R : Type 0} → Grammar Z U E R → (E → Bool) → List ℕ → E → Type 0
StaysOpen g ends p e = ends e ≡ false → IsOpenAt g p

module _ {Z U E R S : Type 0} (g : Grammar Z U E R) (t : Teller S E R) where
  -- whatever follows, these lines are told behind others, and then that is the report
  abbrev pub IsReport : (before stream lines : List ℕ) → Option R → Type 0
  IsReport before stream lines o = (report g t stream ≡ before ++ lines) × (offence g stream ≡ o)

  -- with these lines the report of a stream goes on at whose front these bytes stand, behind others
  abbrev pub AreDue : (bytes before lines : List ℕ) → Type 0
  AreDue bytes before lines =
      (more : List ℕ) → (rest : List ℕ) × (report g t (bytes ++ more) ≡ before ++ lines ++ rest)

  -- what the piece y behind p adds, by its answer; an event that ends the stream, and what refuses
  -- it, end the report too, whatever follows
  abbrev pub Adds : (ends : E → Bool) → List ℕ → List ℕ → Answer E R → Type 0
  Adds ends p y goes_on = IsPending g (p ++ y)
      × (told_so_far g t (p ++ y) ≡ told_so_far g t p) × (state_at g t (p ++ y) ≡ state_at g t p)
  Adds ends p y (completes k e) =
      (told_so_far g t (p ++ take k y) ≡ told_so_far g t p ++ t.told (state_at g t p) e)
      × (state_at g t (p ++ take k y) ≡ t.next (state_at g t p) e)
      × StaysOpen g ends (p ++ take k y) e
      × (ends e ≡ true → (more : List ℕ) → IsReport (told_so_far g t p) (p ++ (y ++ more))
      (t.told (state_at g t p) e ++ t.ends (t.next (state_at g t p) e) None) None)
  Adds ends p y (offends k r) = (more : List ℕ)
      → IsReport (told_so_far g t p) (p ++ (y ++ more)) (t.ends (state_at g t p) (Some r)) (Some r)

  abbrev pub PiecesAdd : (ends : E → Bool) → Type 0
  PiecesAdd ends = (p y : List ℕ) → IsOpenAt g p → Adds ends p y (answer g p y)

  -- what the end of the input adds
  abbrev pub EndsAdd : Type 0
  EndsAdd = (p : List ℕ) → IsPending g p
      → IsReport (told_so_far g t p) p (t.ends (state_at g t p) (ending_at g p)) (ending_at g p)

  -- what is told of a prefix's events is a front of the whole stream's report
  abbrev pub PrefixesTellFronts : Type 0
  PrefixesTellFronts = (p z : List ℕ) → (rest : List ℕ)
      × (report g t (p ++ z) ≡ told_along t t.start (events g p) ++ rest)

  -- and so is what is told of one that may still go on
  abbrev pub OpenTellFronts : Type 0
  OpenTellFronts = (p z : List ℕ) → IsOpenAt g p → (rest : List ℕ)
      × (report g t (p ++ z) ≡ told_so_far g t p ++ rest)
