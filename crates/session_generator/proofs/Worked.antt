-- Worked documents, by computation.
use Rattle.std.proofs.Common.{◌≡◌, ℕ, List, [], ◌∷◌, map, pos, codes, refl}
use Rattle.std.specs.{Fmt.digits, List.repeat}
use Rattle.nbfx_values.specs.declared.{content.Item.Item, scalars.Value.TheVariants.One}
use Rattle.nbfx_values.specs.declared.content.Item.TheVariants.{Attr, Close, Start, Text}
use Rattle.nbfx_values.specs.declared.scalars.Scalar.TheVariants.{Number, Text as TextOf}
use Rattle.session_generator.specs.Documents.{documents, documents_from}

-- a document: its name, its number, what it is made of, and the number of its letters
abbrev Row : Type 0
Row = List ℕ × ℕ × ℕ × ℕ

abbrev told : Row → List Item
told r = Start [] r.0 ∷ Attr [] (codes "k") (One (Number (pos r.1))) ∷ Text (One (Number (pos r.2)))
    ∷ Start [] (codes "t") ∷ Text (One (TextOf (repeat r.3 (codes "x")))) ∷ Close ∷ Close ∷ []

none : documents 7 0 ≡ []
unfolding documents_from
none = refl

first_three : documents 0 3 ≡ map told (
    (codes "n14", 0, 335903614, 293)
    ∷ (codes "n49", 1, 436792849, 188)
    ∷ (codes "n24", 2, 2599843874, 160)
    ∷ [])
unfolding documents_from digits
first_three = refl

of_seven : documents 7 2 ≡ map told (
    (codes "n6", 0, 2118330556, 214)
    ∷ (codes "n13", 1, 4104526463, 125)
    ∷ [])
unfolding documents_from digits
of_seven = refl

-- the greatest seed
of_greatest : documents 18446744073709551615 1 ≡ map told ((codes "n27", 0, 3149104977, 265) ∷ [])
unfolding documents_from digits
of_greatest = refl
