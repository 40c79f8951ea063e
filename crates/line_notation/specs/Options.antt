-- Steps of which each may find nothing.
use Rattle.std.specs.Prelude.{Option, None, Some, List, [], ◌∷◌}

-- the second step, where the first found something
infixl 10 ◌>>=◌
abbrev pub ◌>>=◌ : {A B : Type 0} → Option A → (A → Option B) → Option B
None >>= f = None
(Some a) >>= f = f a

-- what was found, where nothing is left behind it
abbrev pub alone : {A B : Type 0} → Option (A × List B) → Option A
alone None = None
alone (Some (a, [])) = Some a
alone (Some (a, b ∷ more)) = None
