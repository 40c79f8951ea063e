-- What holds of every grammar whose units are known by their own bytes.
use Rattle.std.specs.Prelude.{◌≡◌, ℕ, ◌+◌, ◌<◌, ◌≤◌, true, ◌⊎◌, ◌↔◌, List, [], ◌++◌, length, take}
use Rattle.std.specs.Prelude.{Some, None}
use Rattle.unit_streams.specs.{Front.whole, Judging.only, Judging.refusal_at, Units.IsAccepted}
use Rattle.unit_streams.specs.Going.{history_by, IsPending, Means}
use Rattle.unit_streams.specs.Grammar.{Grammar, resumed, standing}
use Rattle.unit_streams.specs.Judging.{Answer, answer, completes, ending_at, events_of, goes_on}
use Rattle.unit_streams.specs.Judging.{history, history_from, is_over_at, led_by, offence, offends}

-- an answer, its bytes counted with so many before them
abbrev pub raised : {E R : Type 0} → ℕ → Answer E R → Answer E R
raised k goes_on = goes_on
raised k (completes n e) = completes (k + n) e
raised k (offends n r) = offends (k + n) r

-- an answer, or the next where it decides nothing
abbrev pub unless_decided : {E R : Type 0} → Answer E R → Answer E R → Answer E R
unless_decided goes_on next = next
unless_decided (completes n e) next = completes n e
unless_decided (offends n r) next = offends n r

module _ {Z U E R : Type 0} (g : Grammar Z U E R) where
  -- a stream stands where it stood before some bytes and went on by them
  abbrev pub StandingsGoOn : Type 0
  StandingsGoOn = (p c : List ℕ) → standing g (p ++ c) ≡ resumed g (standing g p) c

  -- the answer to two pieces as one is the first's, or else the second's
  abbrev pub CutsChangeNothing : Type 0
  CutsChangeNothing = (p y z : List ℕ)
      → answer g p (y ++ z)
      ≡ unless_decided (answer g p y) (raised (length y) (answer g (p ++ y) z))

  -- an answer is the first decision, or that there is none
  abbrev pub AnswersAreFirst : Type 0
  AnswersAreFirst = (p y : List ℕ) (a : Answer E R) → (answer g p y ≡ a) ↔ Means g p y a

  -- what comes behind a prefix is what a reader is answered, piece by piece
  abbrev pub HistoryIsAnswers : Type 0
  HistoryIsAnswers = (p y : List ℕ) → history_from g p y ≡ history_by g p y (answer g p y)

  -- where nothing has refused or ended a stream yet, it has brought its prefixes' events, and has
  -- only its end left
  abbrev pub PendingHistories : Type 0
  PendingHistories = (bytes : List ℕ) → IsPending g bytes
      → history g bytes ≡ led_by (events_of g bytes) (only (ending_at g bytes))

  -- where a unit may come, none begins a longer one
  abbrev pub NoUnitGoesOn : Type 0
  NoUnitGoesOn = (z : Z) (from : ℕ) (b c : List ℕ) (u v : U)
      → g.unit_at z from b ≡ whole u (length b)
      → g.unit_at z from (b ++ c) ≡ whole v (length (b ++ c)) → c ≡ []

  -- behind a prefix that ends the stream and isn't refused, nothing comes
  abbrev pub EndsAreClosed : Type 0
  EndsAreClosed = (p y : List ℕ) → is_over_at g p ≡ true → refusal_at g p ≡ None
      → history_from g p y ≡ only None

  -- a prefix of the stream is refused so, and no shorter one is refused
  pub record IsRefusedAt (bytes : List ℕ) (r : R) : Type 0 where
    pub place : ℕ
    pub within : place ≤ length bytes
    pub before : (i : ℕ) → i < place → refusal_at g (take i bytes) ≡ None
    pub refused : refusal_at g (take place bytes) ≡ Some r

  -- no prefix is refused, and the end of the input is
  pub record IsRefusedAtEnd (bytes : List ℕ) (r : R) : Type 0 where
    pub unrefused : (i : ℕ) → i ≤ length bytes → refusal_at g (take i bytes) ≡ None
    pub ended : ending_at g bytes ≡ Some r

  -- a stream's offence is the first refusal of a prefix, or else its end's
  abbrev pub OffencesAreFirst : Type 0
  OffencesAreFirst = (bytes : List ℕ) (r : R)
      → (offence g bytes ≡ Some r) ↔ (IsRefusedAt bytes r ⊎ IsRefusedAtEnd bytes r)

  -- no offence is there exactly where unrefused units lead to where the input may end
  abbrev pub AcceptedOrOffended : Type 0
  AcceptedOrOffended = (bytes : List ℕ) → (offence g bytes ≡ None) ↔ IsAccepted g bytes
