-- Documents by the names that their prefixes stand for.
use Rattle.std.specs.Prelude.{ℕ, zero, suc, ◌+◌, List, [], ◌∷◌, drop}
use Rattle.nbfx_values.specs.declared.content.ArrayKind.{ArrayKind}
use Rattle.nbfx_values.specs.declared.content.AttrItem.{AttrItem, TheVariants.Attr as AttrOn}
use Rattle.nbfx_values.specs.declared.content.AttrItem.TheVariants.{Xmlns as DeclaresOn}
use Rattle.nbfx_values.specs.declared.content.Item.{Item, TheVariants.Text, TheVariants.Xmlns}
use Rattle.nbfx_values.specs.declared.content.Item.TheVariants.{Array, Attr, Close, Comment, Start}
use Rattle.nbfx_values.specs.declared.scalars.{Scalar.Scalar, Value.Value}
use Rattle.soap_envelope.specs.{Names.qualified_name, Qualified.Name, Scopes.Scope}
use Rattle.soap_envelope.specs.Scopes.{around, attribute_uri, declared, declared_on, element_uri}

-- an item whose prefixes are resolved; of a declaration nothing is left
pub data Resolved : Type 0 where
  Element : Name → Resolved
  Declares : Resolved
  Attribute : Name → Value → Resolved
  Texts : Value → Resolved
  Comments : List ℕ → Resolved
  Arrays : Name → (attributes : List (Name × Value)) → ArrayKind → (values : List Scalar)
      → Resolved
  Ends : Resolved

-- the attributes of an array's element, by the declarations within it
abbrev pub attributes_on : Scope → List AttrItem → List (Name × Value)
attributes_on scope [] = []
attributes_on scope (DeclaresOn prefix uri ∷ more) = attributes_on scope more
attributes_on scope (AttrOn prefix local value ∷ more) =
    (qualified_name (attribute_uri scope prefix) local, value) ∷ attributes_on scope more

-- an item, by the declarations around it and those at the head of what stands behind it
abbrev pub resolved_item : Scope → Item → List Item → Resolved
resolved_item scope (Start prefix local) more =
    Element (qualified_name (element_uri (declared more ∷ scope) prefix) local)
resolved_item scope (Xmlns prefix uri) more = Declares
resolved_item scope (Attr prefix local value) more =
    Attribute (qualified_name (attribute_uri scope prefix) local) value
resolved_item scope (Text value) more = Texts value
resolved_item scope (Comment bytes) more = Comments bytes
resolved_item scope (Array a) more =
    Arrays (qualified_name (element_uri (declared_on a.attrs ∷ scope) a.prefix) a.local)
    (attributes_on (declared_on a.attrs ∷ scope) a.attrs) a.kind a.values
resolved_item scope Close more = Ends

-- the declarations around what stands behind an item
abbrev pub scope_behind : Scope → Item → List Item → Scope
scope_behind scope (Start prefix local) more = declared more ∷ scope
scope_behind scope Close more = around scope
scope_behind scope item more = scope

abbrev pub resolved_from : Scope → List Item → List Resolved
resolved_from scope [] = []
resolved_from scope (item ∷ more) =
    resolved_item scope item more ∷ resolved_from (scope_behind scope item more) more

-- the same of a document
abbrev pub resolved : List Item → List Resolved
resolved = resolved_from []

-- up to the end of the element that holds the items, the first of which stands in so many elements
-- within that: all but declarations, and but the element's own attributes
abbrev pub content_from : ℕ → List Resolved → List Resolved
content_from inner [] = []
content_from inner (Element name ∷ more) = Element name ∷ content_from (inner + 1) more
content_from inner (Declares ∷ more) = content_from inner more
content_from zero (Attribute name value ∷ more) = content_from zero more
content_from zero (Ends ∷ more) = []
content_from (suc inner) (Ends ∷ more) = Ends ∷ content_from inner more
content_from inner (item ∷ more) = item ∷ content_from inner more

-- the content of the element that begins at a place
abbrev pub content_within : List Resolved → ℕ → List Resolved
content_within items at = content_from 0 (drop (at + 1) items)
