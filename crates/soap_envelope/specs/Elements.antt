-- The element of a header block, seen by the declarations within it.
use Rattle.std.specs.Prelude.{ℕ, Bool, ◌==◌, List, length, Some, None, Ok, Err, Option, Result}
use Rattle.nbfx_values.specs.declared.content.Item.{Item}
use Rattle.soap_envelope.specs.declared.{parts.Parts.Parts, refusals.SoapFault.SoapFault}
use Rattle.soap_envelope.specs.{Parts.kept_children, Parts.parts_of, View.header_scope}
use Rattle.soap_envelope.specs.Scopes.{Scope, within}

pub record Element : Type 0 where
  pub items : List Item
  -- the place of the block's Start
  pub at : ℕ
  -- the declarations within the block
  pub scope : Scope

-- the place of Header, where there is one
abbrev pub header_in : Result Parts SoapFault → Option ℕ
header_in (Ok parts) = parts.header
header_in (Err fault) = None

-- the declarations around the blocks of an envelope
abbrev pub around_blocks : List Item → Scope
around_blocks items = header_scope items (header_in (parts_of items))

abbrev pub block_element : List Item → ℕ → Element
block_element items at = record {
  items = items;
  at = at;
  scope = within items at (around_blocks items);
}

-- whether the element that begins at a place has no children but comments and blank texts
abbrev pub is_empty : List Item → ℕ → Bool
is_empty items at = length (kept_children items at) == 0
