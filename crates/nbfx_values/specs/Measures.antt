-- How deep and how large a list of items is.
use Rattle.std.specs.Prelude.{ℕ, ◌+◌, ◌-◌, ◌^◌, min, max, List, [], ◌∷◌, length, sum_by}
use Rattle.nbfx_values.specs.declared.content.ArrayItem.{ArrayItem}
use Rattle.nbfx_values.specs.declared.content.AttrItem.{AttrItem, TheVariants.Attr as AttrOn}
use Rattle.nbfx_values.specs.declared.content.AttrItem.TheVariants.{Xmlns as DeclaresOn}
use Rattle.nbfx_values.specs.declared.content.Item.{Item, TheVariants.Text, TheVariants.Xmlns}
use Rattle.nbfx_values.specs.declared.content.Item.TheVariants.{Array, Attr, Close, Comment, Start}
use Rattle.nbfx_values.specs.declared.scalars.{Scalar.Scalar, Value.Value}
use Rattle.nbfx_values.specs.declared.scalars.Scalar.TheVariants.{Bytes, Decimal, QName}
use Rattle.nbfx_values.specs.declared.scalars.Scalar.TheVariants.{Text as TextOf, UniqueId, Uuid}
use Rattle.nbfx_values.specs.declared.scalars.Value.TheVariants.{List as ListOf, One}

-- the open elements behind an item, where n are open before it
abbrev pub opened : ℕ → Item → ℕ
opened n (Start prefix local) = n + 1
opened n Close = n - 1
opened n _ = n

-- the open elements while an item stands, an array's element included
abbrev pub open_at : ℕ → Item → ℕ
open_at n (Array a) = n + 1
open_at n _ = n

-- the greatest number of open elements at one moment, where n are open before the items
abbrev pub most_open : ℕ → List Item → ℕ
most_open n [] = n
most_open n (item ∷ items) = max (open_at n item) (most_open (opened n item) items)

-- the open elements behind items, where n are open before them
abbrev pub opened_by : ℕ → List Item → ℕ
opened_by n [] = n
opened_by n (item ∷ items) = opened_by (opened n item) items

abbrev pub depth_of : List Item → ℕ
depth_of = most_open 0

-- what a value counts
abbrev pub scalar_content : Scalar → ℕ
scalar_content (TextOf bytes) = length bytes
scalar_content (Bytes bytes) = length bytes
scalar_content (QName letter name) = length name
scalar_content (Decimal d) = 16
scalar_content (UniqueId bytes) = 16
scalar_content (Uuid bytes) = 16
scalar_content _ = 8

abbrev pub value_content : Value → ℕ
value_content (One s) = scalar_content s
value_content (ListOf ss) = sum_by scalar_content ss

-- what a declaration or an attribute of an array's element counts
abbrev pub attribute_content : AttrItem → ℕ
attribute_content (DeclaresOn prefix uri) = length prefix + length uri
attribute_content (AttrOn prefix local value) = length prefix + length local + value_content value

abbrev pub array_content : ArrayItem → ℕ
array_content a =
    length a.prefix + length a.local
    + sum_by attribute_content a.attrs + sum_by scalar_content a.values

abbrev pub item_content : Item → ℕ
item_content (Start prefix local) = length prefix + length local
item_content (Xmlns prefix uri) = length prefix + length uri
item_content (Attr prefix local value) = length prefix + length local + value_content value
item_content (Text value) = value_content value
item_content (Comment bytes) = length bytes
item_content (Array a) = array_content a
item_content Close = 0

abbrev pub content_of : List Item → ℕ
content_of = sum_by item_content

-- a count that stands still at the last number of 64 bits
abbrev pub capped : ℕ → ℕ
capped n = min n (2 ^ 64 - 1)
