-- The children of an element, by their places among the items, and the place of its end.
use Rattle.std.specs.Prelude.{ℕ, zero, suc, ◌+◌, ◌==◌, ◌&&◌, if◌then◌else◌, List, [], ◌∷◌, Option}
use Rattle.std.specs.Prelude.{None, Some, Bool, true, false, drop}
use Rattle.nbfx_values.specs.declared.content.Item.{Item}
use Rattle.nbfx_values.specs.declared.content.Item.TheVariants.{Start, Xmlns, Attr, Close}

-- whether an item is a child, where it stands right within its parent
abbrev pub is_child : Item → Bool
is_child (Xmlns prefix uri) = false
is_child (Attr prefix local value) = false
is_child Close = false
is_child _ = true

-- how many elements within a parent are open behind an item, where so many are before it, if the
-- parent is open there
abbrev pub open_behind : ℕ → Item → Option ℕ
open_behind inner (Start prefix local) = Some (inner + 1)
open_behind zero Close = None
open_behind (suc inner) Close = Some inner
open_behind inner _ = Some inner

-- the places of the children among items, of which the first is at this place and stands in so many
-- elements within the parent, if the parent is open there
abbrev pub children_from : Option ℕ → ℕ → List Item → List ℕ
children_from None at items = []
children_from (Some inner) at [] = []
children_from (Some inner) at (item ∷ more) =
    if inner == 0 && is_child item
    then at ∷ children_from (open_behind inner item) (at + 1) more
    else children_from (open_behind inner item) (at + 1) more

-- the children of the element that begins at a place
abbrev pub children_of : List Item → ℕ → List ℕ
children_of items at = children_from (Some 0) (at + 1) (drop (at + 1) items)

-- the place of an item that ends the parent; else where it ends behind that item
abbrev pub ends_at : Option ℕ → ℕ → (ℕ → ℕ) → ℕ
ends_at None at later = at
ends_at (Some inner) at later = later inner

-- where the parent of items ends
abbrev pub close_from : ℕ → ℕ → List Item → ℕ
close_from inner at [] = at
close_from inner at (item ∷ more) =
    ends_at (open_behind inner item) at (λ behind. close_from behind (at + 1) more)

-- where the element ends that begins at a place
abbrev pub close_of : List Item → ℕ → ℕ
close_of items at = close_from 0 (at + 1) (drop (at + 1) items)

-- whether an element begins at a place
abbrev pub is_start : Option Item → Bool
is_start (Some (Start prefix local)) = true
is_start _ = false
