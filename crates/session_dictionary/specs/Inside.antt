-- A table's fields, as the strings and the limit that a contract sees.
use Rattle.std.specs.Prelude.{◌≡◌, ◌^◌, ◌≤◌}
use Rattle.string_tables.specs.SessionStrings.{used_cost}
use Rattle.session_dictionary.specs.{declared.table.SessionTable.TheInside.Inside, Order.KeepsOrder}
use Rattle.session_dictionary.specs.Strings.{LimitedStrings}

abbrev pub strings_in : Inside → LimitedStrings
strings_in t = record { strings = t.texts; limit = t.limit }

-- the running cost is that of the strings, and within the limit, and the order, where the table
-- keeps one, is that of all strings
pub record IsTable (t : Inside) : Type 0 where
  pub cost_kept : t.used ≡ used_cost t.texts
  pub within : t.used ≤ t.limit
  pub small : t.limit ≤ 2 ^ 30
  pub order : KeepsOrder t.texts t.order
