-- A name whose prefix is resolved.
use Rattle.std.specs.Prelude.{ℕ, List}

-- its namespace, which is empty for a name in none, and its local part
pub record Name : Type 0 where
  pub uri : List ℕ
  pub local : List ℕ
