-- Tables that a writer goes on with.
use Rattle.std.specs.Prelude.{◌^◌, ◌≤◌}
use Rattle.string_tables.specs.{SessionStrings.used_cost, StringTable.StringTable}
use Rattle.{string_tables.specs.StaticStrings.IsStaticMap, nbfx_encoder.specs.Placing.Writing}

-- a table that a writer goes on with
pub record IsSound (w : Writing) (table : StringTable) : Type 0 where
  pub statics : IsStaticMap table.statics
  pub cost : used_cost table.strings ≤ w.dictionary
  pub small : w.dictionary ≤ 2 ^ 28
