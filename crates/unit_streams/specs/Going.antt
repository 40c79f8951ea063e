-- That a stream goes on: nothing has refused it, nothing of a piece has decided its answer.
use Rattle.std.specs.Prelude.{◌≡◌, ℕ, ◌<◌, ◌≤◌, false, List, [], ◌∷◌, ◌++◌, length, take, drop}
use Rattle.std.specs.Prelude.{Some, None}
use Rattle.unit_streams.specs.{Front.begun, Judging.refusal_at}
use Rattle.unit_streams.specs.Grammar.{Grammar, next_unit, Standing}
use Rattle.unit_streams.specs.Judging.{Answer, completes, ending_at, event_at, given_at, goes_on}
use Rattle.unit_streams.specs.Judging.{History, history_from, is_over_at, led_by, offends, only}

module _ {Z U E R : Type 0} (g : Grammar Z U E R) where
  -- nothing but its length can refuse what stands so
  pub record IsGoing (s : Standing Z E R) : Type 0 where
    pub next : next_unit g s ≡ begun
    pub last : given_at s.begun s.refusal ≡ None

  -- k bytes of y behind p decide nothing before the last of them
  pub record IsQuietBefore (p y : List ℕ) (k : ℕ) : Type 0 where
    pub within : k ≤ length y
    pub unrefused : (i : ℕ) → i < k → refusal_at g (p ++ take i y) ≡ None
    pub eventless : (i : ℕ) → 0 < i → i < k → event_at g (p ++ take i y) ≡ None

  -- k bytes of y behind p complete no event, and no fewer of them are refused
  pub record IsQuiet (p y : List ℕ) (k : ℕ) : Type 0 where
    pub within : k ≤ length y
    pub unrefused : (i : ℕ) → i < k → refusal_at g (p ++ take i y) ≡ None
    pub eventless : (i : ℕ) → 0 < i → i ≤ k → event_at g (p ++ take i y) ≡ None

  -- what an answer to the piece y behind p means
  abbrev pub Means : List ℕ → List ℕ → Answer E R → Type 0
  Means p y goes_on = IsQuiet p y (length y) × (refusal_at g (p ++ y) ≡ None)
  Means p y (completes k e) = IsQuietBefore p y k × (0 < k) × (event_at g (p ++ take k y) ≡ Some e)
  Means p y (offends k r) = IsQuiet p y k × (refusal_at g (p ++ take k y) ≡ Some r)

  -- no prefix of the bytes is refused, and nothing of them ends the stream
  pub record IsPending (bytes : List ℕ) : Type 0 where
    pub unrefused : (n : ℕ) → refusal_at g (take n bytes) ≡ None
    pub going_on : (n : ℕ) → is_over_at g (take n bytes) ≡ false

  -- no shorter prefix is refused, and none ends the stream
  pub record IsOpenAt (p : List ℕ) : Type 0 where
    pub before : (n : ℕ) → n < length p → refusal_at g (take n p) ≡ None
    pub going_on : (n : ℕ) → is_over_at g (take n p) ≡ false

  -- what comes behind p with the piece y, by the answer to y
  abbrev pub history_by : List ℕ → List ℕ → Answer E R → History E R
  history_by p y goes_on = only (ending_at g (p ++ y))
  history_by p y (completes k e) = led_by (e ∷ []) (history_from g (p ++ take k y) (drop k y))
  history_by p y (offends k r) = only (Some r)
