-- How many values items hold.
use Rattle.std.specs.Prelude.{ℕ, ◌+◌, List, length, sum_by}
use Rattle.nbfx_values.specs.declared.content.{ArrayItem.ArrayItem, Item.Item}
use Rattle.nbfx_values.specs.declared.content.AttrItem.{AttrItem, TheVariants.Attr as AttrOn}
use Rattle.nbfx_values.specs.declared.content.Item.TheVariants.{Array, Attr, Text}
use Rattle.nbfx_values.specs.declared.scalars.Value.{Value}
use Rattle.nbfx_values.specs.declared.scalars.Value.TheVariants.{List as ListOf, One}

-- one, or those of a list
abbrev pub value_count : Value → ℕ
value_count (One s) = 1
value_count (ListOf ss) = length ss

abbrev pub attribute_values : AttrItem → ℕ
attribute_values (AttrOn prefix local value) = value_count value
attribute_values _ = 0

abbrev pub array_values : ArrayItem → ℕ
array_values a = sum_by attribute_values a.attrs + length a.values

abbrev pub item_values : Item → ℕ
item_values (Attr prefix local value) = value_count value
item_values (Text value) = value_count value
item_values (Array a) = array_values a
item_values _ = 0

abbrev pub values_of : List Item → ℕ
values_of items = sum_by item_values items
