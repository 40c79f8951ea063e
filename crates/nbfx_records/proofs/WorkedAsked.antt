-- How many bytes are asked for where they end within a record, worked.
use Rattle.std.proofs.Common.{true, [], ◌∷◌, refl, arith}
use Rattle.nbfx_records.specs.declared.nodes.NodePlace.{NodePlace, TheVariants.Within}
use Rattle.nbfx_records.{specs.Asked.here, specs.Asked.later, proofs.OnLiterals.records_on_literals}
use Rattle.nbfx_records.specs.Asked as asked

abbrev within : NodePlace
within = Within true true

no_byte : asked.shape_at within [] 1
no_byte = here (refl, refl)

-- a text of five bytes, to its last
text_of_5 : asked.shape_at within (0x98 ∷ 5 ∷ 0x68 ∷ []) 7
unfolding records_on_literals
text_of_5 = later (0x98, 1, 6, refl, refl, later (5, 1, 5, refl, refl, (omega arith, refl)))

-- an element's prefix of two
prefix_of_2 : asked.shape_at within (0x41 ∷ 2 ∷ 0x70 ∷ []) 4
unfolding records_on_literals
prefix_of_2 = later
    (0x41, 1, 3, refl, refl, here (later (2, 1, 2, refl, refl, (omega arith, refl))))

-- the length of a comment
length_begun : asked.shape_at within (2 ∷ 0x80 ∷ []) 3
unfolding records_on_literals
length_begun = later (2, 1, 2, refl, refl, here (refl, refl))
