-- The documents that follow a seed: each is made of its number and of the upper half of a number
-- of 64 bits, which a linear congruence leads on from document to document.
use Rattle.std.specs.Prelude.{ℕ, zero, suc, ◌+◌, ◌*◌, ◌/◌, ◌%◌, ◌^◌, List, [], ◌∷◌, ◌++◌, pos}
use Rattle.std.specs.{Prelude.codes, Prelude.decimal, List.repeat}
use Rattle.nbfx_values.specs.declared.{content.Item.Item, scalars.Value.TheVariants.One}
use Rattle.nbfx_values.specs.declared.content.Item.TheVariants.{Attr, Close, Start, Text}
use Rattle.nbfx_values.specs.declared.scalars.Scalar.TheVariants.{Number, Text as TextOf}

-- the number of 64 bits behind another
abbrev pub stepped : ℕ → ℕ
stepped x = (x * 6364136223846793005 + 1442695040888963407) % 2 ^ 64

-- its upper half
abbrev pub drawn : ℕ → ℕ
drawn x = x / 2 ^ 32

-- one of fifty names, and up to 299 letters
abbrev pub root_name : ℕ → List ℕ
root_name d = codes "n" ++ decimal (d % 50)

abbrev pub letters : ℕ → List ℕ
letters d = repeat (d / 64 % 300) (codes "x")

-- the document with this number that is made of d
abbrev pub document : ℕ → ℕ → List Item
document number d = Start [] (root_name d)
    ∷ Attr [] (codes "k") (One (Number (pos number)))
    ∷ Text (One (Number (pos d)))
    ∷ Start [] (codes "t")
    ∷ Text (One (TextOf (letters d)))
    ∷ Close
    ∷ Close
    ∷ []

-- so many documents behind the number x, of which the first has this number
unfoldable pub documents_from : ℕ → ℕ → ℕ → List (List Item)
documents_from x number zero = []
documents_from x number (suc count) =
    document number (drawn (stepped x)) ∷ documents_from (stepped x) (number + 1) count

-- the documents of a seed
abbrev pub documents : ℕ → ℕ → List (List Item)
documents seed count = documents_from seed 0 count
