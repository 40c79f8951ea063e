-- A document is what the walk over one element gives.
use Rattle.std.specs.Prelude.{◌≡◌, ℕ, ◌+◌, ◌<◌, ◌≤◌, max, List, [], ◌∷◌, ◌++◌, map, length, take}
use Rattle.std.specs.{Prelude.IsTrue, List.list_all}
use Rattle.nbfx_values.specs.declared.{content.ArrayItem.ArrayItem, scalars.Value.Value}
use Rattle.nbfx_values.specs.declared.content.AttrItem.{AttrItem, TheVariants.Attr as AttrOn}
use Rattle.nbfx_values.specs.declared.content.AttrItem.TheVariants.{Xmlns as DeclaresOn}
use Rattle.nbfx_values.specs.declared.content.Item.{Item, TheVariants.Text, TheVariants.Xmlns}
use Rattle.nbfx_values.specs.declared.content.Item.TheVariants.{Array, Attr, Close, Comment, Start}
use Rattle.nbfx_values.specs.Items.{is_valid_item}

-- the children of an element: each with what comes behind it
pub data Children : Type 0 where
  no_more : Children
  text : Value → Children → Children
  comment : List ℕ → Children → Children
  array : ArrayItem → Children → Children
  element : (prefix local : List ℕ) → List AttrItem → (children more : Children) → Children

-- the item of a declaration or an attribute
abbrev pub item_of : AttrItem → Item
item_of (DeclaresOn prefix uri) = Xmlns prefix uri
item_of (AttrOn prefix local value) = Attr prefix local value

-- the items of the children, in document order
abbrev pub walk : Children → List Item
walk no_more = []
walk (text value more) = Text value ∷ walk more
walk (comment bytes more) = Comment bytes ∷ walk more
walk (array a more) = Array a ∷ walk more
walk (element prefix local attributes children more) =
    Start prefix local ∷ (map item_of attributes ++ (walk children ++ (Close ∷ walk more)))

-- how many elements stand in one another, an array's element included
abbrev pub height : Children → ℕ
height no_more = 0
height (text value more) = height more
height (comment bytes more) = height more
height (array a more) = max 1 (height more)
height (element prefix local attributes children more) = max (height children + 1) (height more)

-- the items are the walk over one element, and records can hold their values
pub record IsDocument (items : List Item) : Type 0 where
  pub prefix : List ℕ
  pub local : List ℕ
  pub attributes : List AttrItem
  pub children : Children
  pub walked : items ≡ walk (element prefix local attributes children no_more)
  pub valid : IsTrue (list_all is_valid_item items)

-- some document begins with these items
abbrev pub IsFront : List Item → Type 0
IsFront items = (rest : List Item) × IsDocument (items ++ rest)

-- the items before the place are a front, and with the item at the place no front ends; or all the
-- items are a front, and the place is their end
pub record IsRefusedAt (items : List Item) (at : ℕ) : Type 0 where
  pub within : at ≤ length items
  pub front : IsFront (take at items)
  pub stops : at < length items → IsFront (take (at + 1) items) → ⊥
