-- Documents whose prefixes are others.
use Rattle.std.specs.Prelude.{◌≡◌, ℕ, List, [], map, Ok, Err, codes, Result}
use Rattle.nbfx_values.specs.declared.content.ArrayItem.{ArrayItem}
use Rattle.nbfx_values.specs.declared.content.AttrItem.{AttrItem, TheVariants.Attr as AttrOn}
use Rattle.nbfx_values.specs.declared.content.AttrItem.TheVariants.{Xmlns as DeclaresOn}
use Rattle.nbfx_values.specs.declared.content.Item.{Item, TheVariants.Text, TheVariants.Xmlns}
use Rattle.nbfx_values.specs.declared.content.Item.TheVariants.{Array, Attr, Close, Comment, Start}
use Rattle.soap_envelope.specs.{declared.refusals.SoapFault.SoapFault, View.View}

-- No two prefixes become one. That of no characters and `xml`, which mean something undeclared,
-- stay.
pub record IsRenaming (f : List ℕ → List ℕ) : Type 0 where
  pub apart : (p q : List ℕ) → f p ≡ f q → p ≡ q
  pub none : f [] ≡ []
  pub xml : f (codes "xml") ≡ codes "xml"

module _ (f : List ℕ → List ℕ) where
  abbrev pub renamed_part : AttrItem → AttrItem
  renamed_part (DeclaresOn prefix uri) = DeclaresOn (f prefix) uri
  renamed_part (AttrOn prefix local value) = AttrOn (f prefix) local value

  abbrev pub renamed_array : ArrayItem → ArrayItem
  renamed_array a = record {
    prefix = f a.prefix;
    local = a.local;
    attrs = map renamed_part a.attrs;
    kind = a.kind;
    values = a.values;
  }

  abbrev pub renamed_item : Item → Item
  renamed_item (Start prefix local) = Start (f prefix) local
  renamed_item (Xmlns prefix uri) = Xmlns (f prefix) uri
  renamed_item (Attr prefix local value) = Attr (f prefix) local value
  renamed_item (Text value) = Text value
  renamed_item (Comment bytes) = Comment bytes
  renamed_item (Array a) = Array (renamed_array a)
  renamed_item Close = Close

  abbrev pub renamed : List Item → List Item
  renamed items = map renamed_item items

-- what a view has but for the content of Body, which keeps its prefixes
abbrev pub headed : View → View
headed v = record v { body = [] }

abbrev pub headed_by : Result View SoapFault → Result View SoapFault
headed_by (Ok v) = Ok (headed v)
headed_by (Err fault) = Err fault
