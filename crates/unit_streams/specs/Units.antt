-- Whole units, one behind the other, at the front of some bytes, and where they lead.
use Rattle.std.specs.Prelude.{◌≡◌, ℕ, ◌+◌, ◌<◌, ◌≤◌, List, [], ◌∷◌, ◌++◌, length, drop, None}
use Rattle.std.specs.Prelude.{option_to_list}
use Rattle.unit_streams.specs.{Front.begun, Front.whole, Grammar.Grammar}

-- a unit and its bytes
pub record Counted (U : Type 0) : Type 0 where
  pub unit : U
  pub size : ℕ

module _ {Z U E R : Type 0} (g : Grammar Z U E R) where
  -- none of these units is refused, and they lead from one situation, at an offset, to another and
  -- leave the rest of the bytes
  unfoldable pub UnitsLead : Z → ℕ → List (Counted U) → List ℕ → Z → List ℕ → Type 0
  UnitsLead z from [] bytes z' rest = (z ≡ z') × (bytes ≡ rest)
  UnitsLead z from (one ∷ units) bytes z' rest =
      (g.unit_at z from bytes ≡ whole one.unit one.size) × (g.refused z from one.unit ≡ None)
      × UnitsLead (g.after z from one.unit) (from + one.size) units (drop one.size bytes) z' rest

  -- no number of bytes is too many that ends within one of them
  unfoldable pub AreShort : Z → ℕ → List (Counted U) → Type 0
  AreShort z from [] = Unit {0}
  AreShort z from (one ∷ units) =
      ((n : ℕ) → from ≤ n → n < from + one.size → g.at_length z from n ≡ None)
      × AreShort (g.after z from one.unit) (from + one.size) units

  -- the events that they complete
  unfoldable pub events_along : Z → ℕ → List (Counted U) → List E
  events_along z from [] = []
  events_along z from (one ∷ units) =
      option_to_list (g.completed z from (from + one.size) one.unit)
      ++ events_along (g.after z from one.unit) (from + one.size) units

-- how many bytes they have
unfoldable pub size_of : {U : Type 0} → List (Counted U) → ℕ
size_of [] = 0
size_of (one ∷ units) = one.size + size_of units

-- unrefused units lead to where the input may end, with bytes behind them of which no unit is whole
-- nor wrong, and at no length on the way there are too many bytes
pub record IsAccepted {Z U E R : Type 0} (g : Grammar Z U E R) (bytes : List ℕ) : Type 0 where
  pub units : List (Counted U)
  pub situation : Z
  pub rest : List ℕ
  pub lead : UnitsLead g g.start 0 units bytes situation rest
  pub units_short : AreShort g g.start 0 units
  pub rest_begun : g.unit_at situation (size_of units) rest ≡ begun
  pub rest_short : (n : ℕ) → size_of units ≤ n → n ≤ length bytes
      → g.at_length situation (size_of units) n ≡ None
  pub may_end : g.at_end situation (size_of units) (length bytes) ≡ None
