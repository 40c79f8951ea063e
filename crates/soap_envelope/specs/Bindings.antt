-- The declarations of the open elements as they are kept: the last one first, and where a prefix
-- stands among them.
use Rattle.std.specs.Prelude.{◌≡◌, ℕ, zero, suc, ◌+◌, ◌-◌, ◌≤◌, List, [], ◌∷◌, ◌++◌, map, reverse}
use Rattle.std.specs.Prelude.{length, take, drop, if◌then◌else◌, nat_lt, Some, None, Option}
use Rattle.std.specs.{Prelude.bytes_eq, BTreeMap.BTreeMap, Global.Vec}
use denote.Ref.{Bor}
use Rattle.nbfx_values.specs.declared.content.AttrItem.{AttrItem, TheVariants.Attr as AttrOn}
use Rattle.nbfx_values.specs.declared.content.AttrItem.TheVariants.{Xmlns as DeclaresOn}
use Rattle.nbfx_values.specs.declared.content.Item.{Item, TheVariants.Attr, TheVariants.Xmlns}
use Rattle.soap_envelope.specs.{declared.bindings.Binding.Binding, Layers.place_in}
use Rattle.soap_envelope.specs.Resolved.{scope_behind}
use Rattle.soap_envelope.specs.Scopes.{Declaration, declaration, Scope}

-- so many declarations are searched one by one
abbrev pub few : ℕ
few = 8

abbrev pub bound_as : Binding → Declaration
bound_as b = declaration b.prefix.now b.uri.now

abbrev pub newest : Vec Binding → List Binding
newest bound = reverse bound.items

abbrev pub declarations : Vec Binding → List Declaration
declarations bound = map bound_as (newest bound)

-- the place of the last declaration of a prefix, by how many come before it
abbrev pub last_of : List ℕ → List Declaration → Option ℕ
last_of prefix [] = None
last_of prefix (d ∷ before) =
    if bytes_eq d.prefix prefix then Some (length before) else last_of prefix before

-- the same of those behind the first few
abbrev pub last_beyond : List ℕ → List Declaration → Option ℕ
last_beyond prefix [] = None
last_beyond prefix (d ∷ before) =
    if nat_lt (length before) few
    then None
    else if bytes_eq d.prefix prefix then Some (length before) else last_beyond prefix before

-- each declaration behind the first few has the place that its prefix had before
abbrev pub AreHidden : List Binding → Type 0
AreHidden [] = Unit {0}
AreHidden (b ∷ before) =
    (few ≤ length before → b.hidden ≡ last_beyond b.prefix.now (map bound_as before))
    × AreHidden before

-- a map has the places of the declarations behind the first few
pub record AreKept (bound : Vec Binding) (places : BTreeMap (Bor (List ℕ)) ℕ) : Type 0 where
  pub found : (prefix : List ℕ) → place_in prefix places
      ≡ last_beyond prefix (declarations bound)
  pub hidden : AreHidden (newest bound)

-- the declarations of each open element, that of the innermost element first, by how many come
-- before the element's own
abbrev pub layers_by : List ℕ → List Declaration → Scope
layers_by [] ds = []
layers_by (mark ∷ marks) ds =
    take (length ds - mark) ds ∷ layers_by marks (drop (length ds - mark) ds)

-- that many do come before them, and none but those of open elements are there
abbrev pub AreMarks : List ℕ → List Declaration → Type 0
AreMarks [] ds = ds ≡ []
AreMarks (mark ∷ marks) ds =
    (mark ≤ length ds) × AreMarks marks (drop (length ds - mark) ds)

-- the declarations of the innermost element
abbrev pub innermost : Scope → List Declaration
innermost [] = []
innermost (layer ∷ outer) = layer

-- there are the declarations that were there, and maybe more
abbrev pub IsGrown : (old new : List Declaration) → Type 0
IsGrown old new = (more : List Declaration) × (new ≡ more ++ old)

-- how many declarations and attributes stand at the head of items
abbrev pub head_len : List Item → ℕ
head_len (Xmlns prefix uri ∷ more) = head_len more + 1
head_len (Attr prefix local value ∷ more) = head_len more + 1
head_len _ = 0

-- what an item and an attribute declare
abbrev pub declared_by : Item → List Declaration
declared_by (Xmlns prefix uri) = declaration prefix uri ∷ []
declared_by _ = []

abbrev pub declared_there : AttrItem → List Declaration
declared_there (DeclaresOn prefix uri) = declaration prefix uri ∷ []
declared_there (AttrOn prefix local value) = []

-- the declarations around so many items more
abbrev pub scope_to : Scope → ℕ → List Item → Scope
scope_to scope zero items = scope
scope_to scope (suc k) [] = scope
scope_to scope (suc k) (item ∷ more) = scope_to (scope_behind scope item more) k more
