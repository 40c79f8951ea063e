-- Places in a table to go back to.
use Rattle.std.specs.Prelude.{◌≡◌, ◌≤◌, ℕ, List, length, take}
use Rattle.string_tables.specs.SessionStrings.{used_cost}
use Rattle.session_dictionary.specs.declared.table.Mark.{Mark}

-- the strings begin with as many as the mark counts, and these cost what it says
pub record IsMarkOf (mark : Mark) (strings : List (List ℕ)) : Type 0 where
  pub there : mark.count ≤ length strings
  pub cost : used_cost (take mark.count strings) ≡ mark.used
