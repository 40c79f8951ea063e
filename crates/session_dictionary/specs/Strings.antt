-- What a contract sees of a table.
use Rattle.std.specs.Prelude.{ℕ, List}

-- the strings of one direction, and the limit on what they cost together
pub record LimitedStrings : Type 0 where
  pub strings : List (List ℕ)
  pub limit : ℕ
