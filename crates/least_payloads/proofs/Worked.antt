-- Worked cases: the least bytes of items.
use Rattle.std.proofs.Common.{◌≡◌, [], ◌∷◌, codes, map, refl, pos}
use Rattle.nbfx_values.specs.declared.content.ArrayKind.TheVariants.{Int32}
use Rattle.nbfx_values.specs.declared.content.AttrItem.TheVariants.{Xmlns as DeclaresOn}
use Rattle.nbfx_values.specs.declared.content.AttrItem.TheVariants.{Attr as AttrOn}
use Rattle.nbfx_values.specs.declared.content.Item.TheVariants.{Start, Xmlns, Attr, Text, Comment}
use Rattle.nbfx_values.specs.declared.content.Item.TheVariants.{Array, Close}
use Rattle.nbfx_values.specs.declared.scalars.Scalar.TheVariants.{Number, Text as TextOf}
use Rattle.nbfx_values.specs.declared.scalars.Value.TheVariants.{One}
use Rattle.least_payloads.specs.Least.{least_of_item}

items : map least_of_item (
    Start [] (codes "x") ∷ Start (codes "prefix") (codes "x")
    ∷ Xmlns [] [] ∷ Xmlns (codes "p") [] ∷ Xmlns (codes "prefix") (codes "urn:p")
    ∷ Attr [] (codes "k") (One (TextOf [])) ∷ Text (One (TextOf (codes "hello"))) ∷ Comment []
    ∷ Close ∷ [])
    ≡ 2 ∷ 2 ∷ 2 ∷ 4 ∷ 4 ∷ 3 ∷ 1 ∷ 2 ∷ 0 ∷ []
items = refl

-- an array of one number, with a declaration and an attribute
array : least_of_item (Array (record {
  prefix = [];
  local = codes "a";
  attrs = DeclaresOn (codes "p") [] ∷ AttrOn [] (codes "k") (One (TextOf [])) ∷ [];
  kind = Int32;
  values = Number (pos 1) ∷ [];
})) ≡ 13
array = refl
