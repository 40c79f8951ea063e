-- The characters of a value, where its kind has some here.
use Rattle.std.specs.Prelude.{ℕ, ◌+◌, true, false, List, ◌∷◌, Some, None, codes, Option}
use Rattle.std.specs.Fmt.{signed_decimal}
use Rattle.uuid.specs.{Parts.swap_fields, Text.hyphenated_text, Text.lower, Text.urn_text}
use Rattle.nbfx_values.specs.declared.scalars.{Scalar.Scalar, Value.Value}
use Rattle.nbfx_values.specs.declared.scalars.Scalar.TheVariants.{Number, QName, Text, Truth}
use Rattle.nbfx_values.specs.declared.scalars.Scalar.TheVariants.{UniqueId, Uuid}
use Rattle.nbfx_values.specs.declared.scalars.Value.TheVariants.{List as ListOf, One}

-- an identifier's first three fields stand with their lowest byte first; a QName's letter 0 is a
abbrev pub scalar_characters : Scalar → Option (List ℕ)
scalar_characters (Text bytes) = Some bytes
scalar_characters (Number n) = Some (signed_decimal n)
scalar_characters (Truth true) = Some (codes "true")
scalar_characters (Truth false) = Some (codes "false")
scalar_characters (UniqueId bytes) = Some (urn_text lower (swap_fields bytes))
scalar_characters (Uuid bytes) = Some (hyphenated_text lower (swap_fields bytes))
scalar_characters (QName letter name) = Some ((97 + letter) ∷ 58 ∷ name)
scalar_characters _ = None

abbrev pub value_characters : Value → Option (List ℕ)
value_characters (One s) = scalar_characters s
value_characters (ListOf ss) = None
