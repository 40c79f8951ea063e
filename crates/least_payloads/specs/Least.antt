-- The least bytes that items have in a payload, and which items may fit a writer's limits. What has
-- more than the limits admit isn't written, whatever strings the session has.
use Rattle.std.specs.Prelude.{ℕ, ◌+◌, Bool, ◌&&◌, List, length, if◌then◌else◌, nat_le, ◌==◌, sum_by}
use Rattle.nbfx_values.specs.{declared.content.ArrayItem.ArrayItem, Limits.Limits}
use Rattle.nbfx_values.specs.declared.content.AttrItem.{AttrItem, TheVariants.Attr as AttrOn}
use Rattle.nbfx_values.specs.declared.content.AttrItem.TheVariants.{Xmlns as DeclaresOn}
use Rattle.nbfx_values.specs.declared.content.Item.{Item, TheVariants.Text, TheVariants.Xmlns}
use Rattle.nbfx_values.specs.declared.content.Item.TheVariants.{Array, Attr, Close, Comment, Start}
use Rattle.nbfx_values.specs.Measures.{content_of}

-- a declaration: its type byte, an identifier or a length of its namespace, and for a prefix a
-- length and a byte
abbrev pub least_of_declaration : (prefix : List ℕ) → ℕ
least_of_declaration prefix = if length prefix == 0 then 2 else 4

-- an attribute's name and its value take a byte each
abbrev pub least_of_attribute : AttrItem → ℕ
least_of_attribute (DeclaresOn prefix uri) = least_of_declaration prefix
least_of_attribute (AttrOn prefix local value) = 3

-- its type byte, the element, the attributes, their end, the values' type byte, and their number
abbrev pub least_of_array : ArrayItem → ℕ
least_of_array a = sum_by least_of_attribute a.attrs + 6

-- the end of an element may stand in the record of a text
abbrev pub least_of_item : Item → ℕ
least_of_item (Start prefix local) = 2
least_of_item (Xmlns prefix uri) = least_of_declaration prefix
least_of_item (Attr prefix local value) = 3
least_of_item (Text value) = 1
least_of_item (Comment bytes) = 2
least_of_item (Array a) = least_of_array a
least_of_item Close = 0

abbrev pub least_payload : List Item → ℕ
least_payload = sum_by least_of_item

-- whether items may fit: their content does, and the least that they have in a payload
abbrev pub may_fit : Limits → List Item → Bool
may_fit limits items =
    nat_le (content_of items) limits.content && nat_le (least_payload items) limits.payload
