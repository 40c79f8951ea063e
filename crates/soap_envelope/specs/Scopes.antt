-- Which namespace a prefix stands for, by the declarations in scope.
use Rattle.std.specs.Prelude.{ℕ, ◌+◌, Bool, List, [], ◌∷◌, length, drop, is_some, if◌then◌else◌}
use Rattle.std.specs.Prelude.{◌==◌, Some, None, codes, Option, bytes_eq, unwrap_or}
use Rattle.{std.specs.Option.option_or, soap_envelope.specs.Names.xml_namespace}
use Rattle.nbfx_values.specs.declared.content.AttrItem.{AttrItem, TheVariants.Attr as AttrOn}
use Rattle.nbfx_values.specs.declared.content.AttrItem.TheVariants.{Xmlns as DeclaresOn}
use Rattle.nbfx_values.specs.declared.content.Item.{Item, TheVariants.Attr, TheVariants.Xmlns}

-- a prefix, which is empty for the default one, and the namespace that it is declared to stand for
pub record Declaration : Type 0 where
  pub prefix : List ℕ
  pub uri : List ℕ

abbrev pub declaration : (prefix uri : List ℕ) → Declaration
declaration prefix uri = record { prefix = prefix; uri = uri }

-- the declarations of each element that is open, that of the innermost element first
abbrev pub Scope : Type 0
Scope = List (List Declaration)

-- the declarations at the head of what stands behind the beginning of an element
abbrev pub declared : List Item → List Declaration
declared (Xmlns prefix uri ∷ more) = declaration prefix uri ∷ declared more
declared (Attr prefix local value ∷ more) = declared more
declared _ = []

-- those of an array's element
abbrev pub declared_on : List AttrItem → List Declaration
declared_on [] = []
declared_on (DeclaresOn prefix uri ∷ more) = declaration prefix uri ∷ declared_on more
declared_on (AttrOn prefix local value ∷ more) = declared_on more

-- what an element declares a prefix to stand for
abbrev pub uri_in : List Declaration → List ℕ → Option (List ℕ)
uri_in [] prefix = None
uri_in (d ∷ more) prefix = if bytes_eq d.prefix prefix then Some d.uri else uri_in more prefix

-- what a prefix stands for where nothing declares it
abbrev pub undeclared_uri : List ℕ → Option (List ℕ)
undeclared_uri [] = Some []
undeclared_uri prefix = if bytes_eq prefix (codes "xml") then Some xml_namespace else None

-- what a prefix stands for
abbrev pub uri_of : Scope → List ℕ → Option (List ℕ)
uri_of [] prefix = undeclared_uri prefix
uri_of (layer ∷ outer) prefix = option_or (uri_in layer prefix) (uri_of outer prefix)

abbrev pub is_bound : Scope → List ℕ → Bool
is_bound scope prefix = is_some (uri_of scope prefix)

-- the namespace of an element and of an attribute: an attribute without prefix has none
abbrev pub element_uri : Scope → List ℕ → List ℕ
element_uri scope prefix = unwrap_or (uri_of scope prefix) []

abbrev pub attribute_uri : Scope → List ℕ → List ℕ
attribute_uri scope prefix = if length prefix == 0 then [] else element_uri scope prefix

-- within the element that begins at a place, and around it
abbrev pub within : List Item → ℕ → Scope → Scope
within items at outer = declared (drop (at + 1) items) ∷ outer

abbrev pub around : Scope → Scope
around [] = []
around (layer ∷ outer) = outer
