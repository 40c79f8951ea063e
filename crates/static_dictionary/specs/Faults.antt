-- What a refusal tells, and what a row adds.
use Rattle.std.specs.Prelude.{◌≡◌, ⊤, List, Option, Some, None, Ok}
use Rattle.string_tables.specs.StaticStrings.{Entry, static_text, with_entry}
use Rattle.static_dictionary.specs.Rows.{Fault, Row, entry_of}
use Rattle.static_dictionary.specs.declared.fault.TableFault.{TableFault}
use Rattle.static_dictionary.specs.declared.fault.TableFault.TheVariants.{Bad, Memory}

-- a bad row is the first that fails; want of memory may come at any time
abbrev pub Tells : Option Fault → TableFault → Type 0
Tells first (Bad row kind) = first ≡ Some (row, kind)
Tells first Memory = ⊤

-- a row adds its entry, whose identifier is new
pub record AddsEntryOf (row : Row) (before after : List Entry) : Type 0 where
  pub entry : Entry
  pub written : entry_of row ≡ Ok entry
  pub fresh : static_text before entry.0 ≡ None
  pub entries : after ≡ with_entry before entry
