-- What a proof unfolds to compute payloads, and what worked cases share.
use Rattle.std.proofs.Common.{◌≡◌, ℕ, List, [], ◌∷◌, ◌++◌, map, Ok, codes}
use Rattle.std.specs.{Prelude.⊤, Char.encode_utf8}
use Rattle.string_tables.specs.StringTable.{StringTable}
use Rattle.multibyte_ints.specs.{Integer.shortest, Integer.shortest_within, Text.string_bytes_of}
use Rattle.nbfx_values.specs.declared.content.Item.{Item}
use Rattle.nbfx_values.specs.declared.content.Item.TheVariants.{Close, Start, Text}
use Rattle.nbfx_values.specs.declared.scalars.{Scalar.Scalar, Value.TheVariants.One}
use Rattle.nbfx_values.specs.declared.session.Kind.TheVariants.{Plain, Session}
use Rattle.nbfx_encoder.specs.{Placing.Writing, Spelling.chosen}

unfoldable pub writing_on_literals : ⊤
unfolding encode_utf8 shortest shortest_within string_bytes_of
writing_on_literals = tt

-- the first strings of the published dictionary, and one that it has twice here
abbrev pub published : List (ℕ × List ℕ)
published = (0, codes "mustUnderstand") ∷ (2, codes "Envelope")
    ∷ (4, codes "http://www.w3.org/2003/05/soap-envelope")
    ∷ (6, codes "http://www.w3.org/2005/08/addressing")
    ∷ (8, codes "Header") ∷ (10, codes "Action") ∷ (12, codes "To") ∷ (14, codes "Body")
    ∷ (16, codes "Body") ∷ (26, codes "MessageID") ∷ []

abbrev pub table_of : List (List ℕ) → StringTable
table_of strings = record { statics = published; strings = strings }

-- an identifier's bytes
abbrev pub message : List ℕ
message = 0x33 ∷ 0x22 ∷ 0x11 ∷ 0x00 ∷ 0x55 ∷ 0x44 ∷ 0x77 ∷ 0x66
    ∷ 0x88 ∷ 0x99 ∷ 0xaa ∷ 0xbb ∷ 0xcc ∷ 0xdd ∷ 0xee ∷ 0xff ∷ []

abbrev pub text : Scalar → Item
text scalar = Text (One scalar)

-- an element that holds these items
abbrev pub x : List Item → List Item
x inner = Start [] (codes "x") ∷ (inner ++ Close ∷ [])

-- without strings of a session: items, and their payload
abbrev pub plain : Writing
plain = record { kind = Plain; dictionary = 0 }

abbrev pub ArePlain : List (List Item × List ℕ) → Type 0
ArePlain rows =
    map (λ (r : List Item × List ℕ). chosen plain (table_of []) r.0) rows
    ≡ map (λ (r : List Item × List ℕ). Ok (r.1, table_of [])) rows

-- the same of what stands in an element, and its bytes after the beginning of that
abbrev pub AreInside : List (List Item × List ℕ) → Type 0
AreInside rows =
    ArePlain (map (λ (r : List Item × List ℕ). (x r.0, 0x40 ∷ 0x01 ∷ 0x78 ∷ r.1)) rows)

-- with them: what they may cost, those before, items, their payload, and the strings after it
abbrev pub Row : Type 0
Row = ℕ × List (List ℕ) × List Item × List ℕ × List (List ℕ)

abbrev pub AreChosen : List Row → Type 0
AreChosen rows =
    map (λ (r : Row). chosen (record { kind = Session; dictionary = r.0 }) (table_of r.1) r.2) rows
    ≡ map (λ (r : Row). Ok (r.3, table_of r.4)) rows
