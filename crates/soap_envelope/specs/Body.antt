-- The content of Body, so that it means the same in any other place: each child element declares
-- what was in scope at Body.
use Rattle.std.specs.Prelude.{ℕ, ◌+◌, Bool, not, ◌&&◌, ◌||◌, List, [], ◌∷◌, ◌++◌, map, drop}
use Rattle.std.specs.Prelude.{is_none, if◌then◌else◌, ◌==◌, Some, None, codes, filter, Option}
use Rattle.std.specs.{Prelude.bytes_eq, Cmp.Lexicographic.slice_cmp}
use Rattle.std.specs.{Ordering.nat_cmp, declared.cmp.Ordering.Ordering}
use Rattle.std.specs.declared.cmp.Ordering.TheVariants.{Equal, Greater, Less}
use Rattle.nbfx_values.specs.declared.content.{ArrayItem.ArrayItem, Item.Item}
use Rattle.nbfx_values.specs.declared.content.AttrItem.{AttrItem, TheVariants.Xmlns as DeclaresOn}
use Rattle.nbfx_values.specs.declared.content.Item.TheVariants.{Array, Attr, Start, Xmlns}
use Rattle.soap_envelope.specs.{Children.open_behind, Names.soap, Versions.namespace}
use Rattle.soap_envelope.specs.declared.versions.Addressing.{Addressing}
use Rattle.soap_envelope.specs.Scopes.{Declaration, declared, declared_on, Scope, uri_in, within}

-- one declaration and another with those behind it, by the order of the two; and those behind it
-- with the first at its place
abbrev pub placed : Ordering → (d e : Declaration) → (more put_behind : List Declaration)
    → List Declaration
placed Less d e more put_behind = d ∷ e ∷ more
placed Equal d e more put_behind = d ∷ more
placed Greater d e more put_behind = e ∷ put_behind

-- a declaration at its place among others by the order of their prefixes' bytes, and in place of
-- one of its prefix
abbrev pub put : Declaration → List Declaration → List Declaration
put d [] = d ∷ []
put d (e ∷ more) = placed (slice_cmp nat_cmp d.prefix e.prefix) d e more (put d more)

abbrev pub put_all : List Declaration → List Declaration → List Declaration
put_all [] others = others
put_all (d ∷ more) others = put_all more (put d others)

-- the declarations in scope, by the order of their prefixes
abbrev pub in_scope : Scope → List Declaration
in_scope [] = []
in_scope (layer ∷ outer) = put_all layer (in_scope outer)

-- whether every reply in a version declares it
abbrev pub is_usual : Addressing → Declaration → Bool
is_usual version d =
    (bytes_eq d.prefix (codes "s") && bytes_eq d.uri soap)
    || (bytes_eq d.prefix (codes "a") && bytes_eq d.uri (namespace version))

-- those among declarations that not every reply has
abbrev pub unusual : Addressing → List Declaration → List Declaration
unusual version declarations = filter (λ d. not (is_usual version d)) declarations

-- those that an element in Body may rest on
abbrev pub needed : Addressing → Scope → List Declaration
needed version scope = unusual version (in_scope scope)

-- whether an element with these declarations doesn't declare a prefix itself
abbrev pub is_missing : List Declaration → Declaration → Bool
is_missing own d = is_none (uri_in own d.prefix)

abbrev pub missing : List Declaration → List Declaration → List Declaration
missing needs own = filter (is_missing own) needs

abbrev pub xmlns_of : Declaration → Item
xmlns_of d = Xmlns d.prefix d.uri

abbrev pub attribute_of : Declaration → AttrItem
attribute_of d = DeclaresOn d.prefix d.uri

abbrev pub array_with : List Declaration → ArrayItem → ArrayItem
array_with needs a = record {
  prefix = a.prefix;
  local = a.local;
  attrs = map attribute_of (missing needs (declared_on a.attrs)) ++ a.attrs;
  kind = a.kind;
  values = a.values;
}

-- a child, or the beginning of one with what stands behind that, and the declarations that it needs
abbrev pub child_items : List Declaration → Item → List Item → List Item
child_items needs (Start prefix local) more =
    Start prefix local ∷ map xmlns_of (missing needs (declared more))
child_items needs (Array a) more = Array (array_with needs a) ∷ []
child_items needs item more = item ∷ []

-- an item that stands in so many elements within Body
abbrev pub standing_items : List Declaration → ℕ → Item → List Item → List Item
standing_items needs inner item more =
    if inner == 0 then child_items needs item more else item ∷ []

-- nothing of an item that ends Body
abbrev pub while_open : Option ℕ → List Item → List Item
while_open None items = []
while_open (Some inner) items = items

-- the items up to the end of the element that holds them, the first of which stands in so many
-- elements within that, with the declarations that children need
abbrev pub self_standing : List Declaration → Option ℕ → List Item → List Item
self_standing needs None items = []
self_standing needs (Some inner) [] = []
self_standing needs (Some inner) (item ∷ more) =
    while_open (open_behind inner item) (standing_items needs inner item more)
    ++ self_standing needs (open_behind inner item) more

-- how many elements within Body are open behind an item, if Body is, where so many are before it
abbrev pub open_after : Option ℕ → Item → Option ℕ
open_after None item = None
open_after (Some inner) item = open_behind inner item

-- an item that stands in so many elements within Body, if Body is open there: nothing of one behind
-- Body or of the end of Body
abbrev pub turned_items : List Declaration → Option ℕ → Item → List Item → List Item
turned_items needs None item more = []
turned_items needs (Some inner) item more =
    while_open (open_behind inner item) (standing_items needs inner item more)

-- what stands behind the declarations and attributes at the head of items
abbrev pub behind_head : List Item → List Item
behind_head (Xmlns prefix uri ∷ more) = behind_head more
behind_head (Attr prefix local value ∷ more) = behind_head more
behind_head items = items

-- the content of the Body that begins at a place, by the declarations within the root, for replies
-- in a version
abbrev pub body_items : Addressing → List Item → Scope → ℕ → List Item
body_items version items root at =
    self_standing (needed version (within items at root)) (Some 0)
    (behind_head (drop (at + 1) items))
