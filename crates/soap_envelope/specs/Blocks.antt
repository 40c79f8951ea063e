-- The header blocks: their names, and what their SOAP attributes say.
use Rattle.std.specs.Prelude.{ℕ, ◌+◌, Bool, true, false, ◌&&◌, ◌||◌, List, [], ◌∷◌, map, drop}
use Rattle.std.specs.Prelude.{if◌then◌else◌, slice_get, Some, None, codes, filter, Option, bytes_eq}
use Rattle.std.specs.Prelude.{unwrap_or}
use Rattle.nbfx_values.specs.declared.content.Item.{Item, TheVariants.Attr, TheVariants.Xmlns}
use Rattle.nbfx_values.specs.{declared.scalars.Value.Value, Characters.value_characters}
use Rattle.soap_envelope.specs.declared.{attributes.Found.Found, blocks.Block.Block}
use Rattle.soap_envelope.specs.Children.{close_of, is_start}
use Rattle.soap_envelope.specs.Names.{qualified_name, role_next, role_ultimate_receiver, soap}
use Rattle.soap_envelope.specs.{Parts.element_name, Qualified.Name}
use Rattle.soap_envelope.specs.Scopes.{attribute_uri, Scope, within}

abbrev pub found : ℕ → Value → Found
found at value = record { at = at; characters = value_characters value }

-- whether an attribute is SOAP's of a local name
abbrev pub is_soap_attribute : Scope → (name prefix local : List ℕ) → Bool
is_soap_attribute scope name prefix local =
    bytes_eq local name && bytes_eq (attribute_uri scope prefix) soap

-- the first attribute that is, at the head of items of which the first is at this place
abbrev pub soap_attribute : Scope → List ℕ → ℕ → List Item → Option Found
soap_attribute scope name at (Xmlns prefix uri ∷ more) = soap_attribute scope name (at + 1) more
soap_attribute scope name at (Attr prefix local value ∷ more) =
    if is_soap_attribute scope name prefix local
    then Some (found at value)
    else soap_attribute scope name (at + 1) more
soap_attribute scope name at _ = None

-- the same of the element that begins at a place
abbrev pub soap_attribute_of : List Item → Scope → List ℕ → ℕ → Option Found
soap_attribute_of items outer name at =
    soap_attribute (within items at outer) name (at + 1) (drop (at + 1) items)

abbrev pub must_understand_of : List Item → Scope → ℕ → Option Found
must_understand_of items outer at = soap_attribute_of items outer (codes "mustUnderstand") at

abbrev pub role_of : List Item → Scope → ℕ → Option Found
role_of items outer at = soap_attribute_of items outer (codes "role") at

-- the spellings of a truth, as XML Schema has them
abbrev pub is_yes : Option (List ℕ) → Bool
is_yes None = false
is_yes (Some characters) = bytes_eq characters (codes "1") || bytes_eq characters (codes "true")

abbrev pub is_no : Option (List ℕ) → Bool
is_no None = false
is_no (Some characters) = bytes_eq characters (codes "0") || bytes_eq characters (codes "false")

-- whether a mustUnderstand attribute is there and true
abbrev pub must_be_understood : Option Found → Bool
must_be_understood None = false
must_be_understood (Some f) = is_yes f.characters

-- whether characters are a role of the ultimate receiver's; no characters, as an empty value has
-- them, are its role too, and a value of a kind without characters is no role
abbrev pub is_own_role : Option (List ℕ) → Bool
is_own_role None = false
is_own_role (Some characters) =
    bytes_eq characters []
    || (bytes_eq characters role_next || bytes_eq characters role_ultimate_receiver)

-- whether a role is left out or the ultimate receiver's
abbrev pub is_targeted : Option Found → Bool
is_targeted None = true
is_targeted (Some f) = is_own_role f.characters

-- the name of the element that begins at a place
abbrev pub name_of : List Item → Scope → ℕ → Name
name_of items outer at = unwrap_or (element_name items outer at) (qualified_name [] [])

abbrev pub block_of : List Item → Scope → ℕ → Block
block_of items outer at = record {
  name = name_of items outer at;
  must_understand = must_be_understood (must_understand_of items outer at);
  targeted = is_targeted (role_of items outer at);
  from = at;
  to = close_of items at;
}

-- the blocks among the children of Header
abbrev pub blocks_among : List Item → Scope → List ℕ → List Block
blocks_among items outer children =
    map (block_of items outer) (filter (λ child. is_start (slice_get items child)) children)
