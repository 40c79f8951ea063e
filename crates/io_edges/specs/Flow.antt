-- What moves between a program and the outside, where the outside tells its content.
use Rattle.std.specs.Prelude.{◌≡◌, ℕ, ◌≤◌, List, ◌++◌, length, take, drop, Option, Some, None}

-- the first n of the bytes that were left stand at the front of the room, and are left no more
pub record Moves (left left' : List ℕ) (room : List ℕ) (n : ℕ) : Type 0 where
  pub there : n ≤ length left
  pub given : take n room ≡ take n left
  pub rest : left' ≡ drop n left

-- what was written grew by the first bytes of the piece, or by none or all of them
pub record GrowsByPrefix (written written' : List ℕ) (piece : List ℕ) : Type 0 where
  pub kept : ℕ
  pub grown : written' ≡ written ++ take kept piece

-- of what a sink held and the bytes that came behind it the first were written, and the others are
-- held now
pub record Passes (written written' held held' bytes : List ℕ) : Type 0 where
  pub put : List ℕ
  pub split : held ++ bytes ≡ put ++ held'
  pub grown : written' ≡ written ++ put

-- P of what was told before and what is told now; what was told once stays told
abbrev pub Told : {X : Type 0} → Option X → Option X → (X → X → Type 0) → Type 0
Told None new P = Unit {0}
Told (Some old) None P = ⊥
Told (Some old) (Some new) P = P old new
