-- What a stream is read by: units, one behind the other, and what they mean. Where a stream stands:
-- its whole units peeled off the front, the situation behind them, and the bytes of the unit begun.
use Rattle.std.specs.Prelude.{◌≡◌, ℕ, zero, suc, ◌+◌, List, [], ◌++◌, length, drop, Bool, true}
use Rattle.std.specs.Prelude.{false, Option, Some, None}
use Rattle.unit_streams.specs.Front.{Front, begun, whole, on_whole, ReadsFront}

-- Situations are in Z, units in U, events in E and refusals in R. A unit is read at the offset at
-- which it begins, since a refusal tells its place, and has its bytes up to the offset behind it,
-- which an event may tell.
pub record Grammar (Z U E R : Type 0) : Type 0 where
  -- the situation before the first unit
  pub start : Z
  -- the unit at the front of some bytes
  pub unit_at : Z → ℕ → List ℕ → Front U R
  -- the situation behind a whole unit
  pub after : Z → ℕ → U → Z
  -- why a whole unit is refused by what it says
  pub refused : Z → ℕ → U → Option R
  -- the event that a whole unit completes, by the offsets at which it begins and behind it
  pub completed : Z → ℕ → ℕ → U → Option E
  -- nothing that follows is judged
  pub is_over : Z → Bool
  -- why so many bytes are too many, where the unit that isn't whole begins at an offset
  pub at_length : Z → ℕ → ℕ → Option R
  -- why the input may not end behind so many bytes
  pub at_end : Z → ℕ → ℕ → Option R

-- where a stream stands
pub record Standing (Z E R : Type 0) : Type 0 where
  -- behind the whole units
  pub situation : Z
  -- the offset at which the unit that isn't whole begins
  pub from : ℕ
  -- its bytes so far
  pub begun : List ℕ
  -- the event that the last whole unit completed
  pub event : Option E
  -- why the last whole unit is refused
  pub refusal : Option R

module _ {Z U E R : Type 0} (g : Grammar Z U E R) where
  -- the unit at the front of what is begun
  abbrev pub next_unit : Standing Z E R → Front U R
  next_unit s = g.unit_at s.situation s.from s.begun

  -- behind a whole unit of so many bytes
  abbrev pub behind_unit : Standing Z E R → U → ℕ → Standing Z E R
  behind_unit s unit n = record {
    situation = g.after s.situation s.from unit;
    from = s.from + n;
    begun = drop n s.begun;
    event = g.completed s.situation s.from (s.from + n) unit;
    refusal = g.refused s.situation s.from unit;
  }

  -- at most so many units peeled off
  unfoldable pub peeled : ℕ → Standing Z E R → Standing Z E R
  peeled zero s = s
  peeled (suc more) s = on_whole (next_unit s) (λ unit n. peeled more (behind_unit s unit n)) s

  -- all whole units peeled off; a unit has at least one byte
  unfoldable pub peel : Standing Z E R → Standing Z E R
  peel s = peeled (length s.begun) s

  -- before the first unit, with these bytes
  abbrev pub at_start : List ℕ → Standing Z E R
  at_start bytes = record {
    situation = g.start;
    from = 0;
    begun = bytes;
    event = None;
    refusal = None;
  }

  -- where the stream p stands
  unfoldable pub standing : List ℕ → Standing Z E R
  standing p = peel (at_start p)

-- more bytes behind what is begun
abbrev pub with_more : {Z E R : Type 0} → Standing Z E R → List ℕ → Standing Z E R
with_more s bytes = record s { begun = s.begun ++ bytes }

-- where a stream stands that stood so before these bytes
unfoldable pub resumed : {Z U E R : Type 0} → Grammar Z U E R → Standing Z E R → List ℕ
    → Standing Z E R
resumed g s bytes = peel g (with_more s bytes)

-- each unit is known by its own bytes, of which there is one at least, and where nothing is judged
-- nothing is read
pub record IsReadable {Z U E R : Type 0} (g : Grammar Z U E R) : Type 0 where
  pub reads : (z : Z) (from : ℕ) → ReadsFront (g.unit_at z from)
  pub nothing : (z : Z) (from : ℕ) → g.unit_at z from [] ≡ begun

-- where nothing is judged, no byte is read and nothing is refused
pub record IsQuietWhenOver {Z U E R : Type 0} (g : Grammar Z U E R) : Type 0 where
  pub unread : (z : Z) (from : ℕ) (bytes : List ℕ) → g.is_over z ≡ true
      → g.unit_at z from bytes ≡ begun
  pub any_length : (z : Z) (from n : ℕ) → g.is_over z ≡ true → g.at_length z from n ≡ None
  pub any_end : (z : Z) (from n : ℕ) → g.is_over z ≡ true → g.at_end z from n ≡ None

-- the stream ends with the events that end it, and with nothing else
pub record TellsItsEnd {Z U E R : Type 0} (g : Grammar Z U E R) (ends : E → Bool) : Type 0 where
  pub start : g.is_over g.start ≡ false
  pub told : (z : Z) (from : ℕ) (b : List ℕ) (u : U) (k : ℕ) (e : E)
      → g.unit_at z from b ≡ whole u k → g.is_over z ≡ false → g.completed z from (from + k) u
      ≡ Some e
      → g.is_over (g.after z from u) ≡ ends e
  pub untold : (z : Z) (from : ℕ) (b : List ℕ) (u : U) (k : ℕ)
      → g.unit_at z from b ≡ whole u k → g.is_over z ≡ false → g.completed z from (from + k) u
      ≡ None
      → g.is_over (g.after z from u) ≡ false
