-- What a function does that appends bytes to others: where there is no memory for all of them, the
-- first of them may stand there.
use Rattle.std.specs.Prelude.{◌≡◌, ℕ, List, ◌++◌, Result, Ok, Err}

abbrev pub Appended : {T E : Type 0} → Result T E → List ℕ → List ℕ → List ℕ → Type 0
Appended (Ok _) old new bytes = new ≡ old ++ bytes
Appended (Err _) old new bytes =
    (first : List ℕ) × (rest : List ℕ) × (bytes ≡ first ++ rest) × (new ≡ old ++ first)

pub record Puts {T E : Type 0} (result : Result T E) (old new bytes : List ℕ) : Type 0 where
  pub put : Appended result old new bytes
