-- A count of outside faults, which stands still at the end of its type.
use Rattle.std.specs.Prelude.{◌≡◌, ℕ, ◌+◌, ◌<◌, ◌≤◌, ◌-◌, ◌^◌, ◌⊎◌, min}

-- the count is greater than before, or stands at its last value
abbrev pub Rose : ℕ → ℕ → Type 0
Rose old new = (old < new) ⊎ (new ≡ 2 ^ 64 - 1)

-- the count with one more, up to its last value
abbrev pub one_more : ℕ → ℕ
one_more n = min (n + 1) (2 ^ 64 - 1)

-- what a call leaves of the count: it rises in a call that failed by the outside, and in no other
pub record CountsFaults (old new : ℕ) (failed : Type 0) : Type 0 where
  pub rose : failed → Rose old new
  pub same : (failed → ⊥) → new ≡ old
  pub grows : old ≤ new

-- the same, of a call that counts just one
pub record CountsOne (old new : ℕ) (failed : Type 0) : Type 0 where
  pub once : failed → new ≡ one_more old
  pub same : (failed → ⊥) → new ≡ old
  pub grows : old ≤ new
