-- Worked values in their chosen spelling, computed by the definitions.
use Rattle.std.proofs.Common.{ℕ, true, false, List, [], ◌∷◌, map, ℤ, pos, negsuc, codes, refl}
use Rattle.{std.specs.List.repeat, nbfx_encoder.proofs.OnLiterals.x}
use Rattle.nbfx_values.specs.declared.content.Item.TheVariants.{Attr, Comment, Text}
use Rattle.nbfx_values.specs.declared.scalars.Scalar.TheVariants.{Bytes, DateTime, Decimal, Double}
use Rattle.nbfx_values.specs.declared.scalars.Scalar.TheVariants.{Float, Number, Text as TextOf}
use Rattle.nbfx_values.specs.declared.scalars.Scalar.TheVariants.{TimeSpan, Truth, UniqueId, Uuid}
use Rattle.nbfx_values.specs.declared.scalars.Value.TheVariants.{List as ListOf}
use Rattle.nbfx_encoder.proofs.OnLiterals.{AreChosen, AreInside, message, text, writing_on_literals}

-- a number that is all that an element holds, and its record
abbrev AreNumbers : List (ℤ × List ℕ) → Type 0
AreNumbers rows = AreInside (map (λ (r : ℤ × List ℕ). (text (Number r.0) ∷ [], r.1)) rows)

-- numbers at the edges of each width
numbers : AreNumbers (
    (pos 0, 0x81 ∷ [])
    ∷ (pos 1, 0x83 ∷ [])
    ∷ (pos 2, 0x89 ∷ 0x02 ∷ [])
    ∷ (negsuc 0, 0x89 ∷ 0xff ∷ [])
    ∷ (pos 127, 0x89 ∷ 0x7f ∷ [])
    ∷ (negsuc 127, 0x89 ∷ 0x80 ∷ [])
    ∷ (pos 128, 0x8b ∷ 0x80 ∷ 0x00 ∷ [])
    ∷ (negsuc 128, 0x8b ∷ 0x7f ∷ 0xff ∷ [])
    ∷ (pos 32767, 0x8b ∷ 0xff ∷ 0x7f ∷ [])
    ∷ (negsuc 32767, 0x8b ∷ 0x00 ∷ 0x80 ∷ [])
    ∷ (pos 32768, 0x8d ∷ 0x00 ∷ 0x80 ∷ 0x00 ∷ 0x00 ∷ [])
    ∷ (negsuc 32768, 0x8d ∷ 0xff ∷ 0x7f ∷ 0xff ∷ 0xff ∷ [])
    ∷ (pos 2147483647, 0x8d ∷ 0xff ∷ 0xff ∷ 0xff ∷ 0x7f ∷ [])
    ∷ (negsuc 2147483647, 0x8d ∷ 0x00 ∷ 0x00 ∷ 0x00 ∷ 0x80 ∷ [])
    ∷ (pos 2147483648, 0x8f ∷ 0x00 ∷ 0x00 ∷ 0x00 ∷ 0x80 ∷ 0x00 ∷ 0x00 ∷ 0x00 ∷ 0x00 ∷ [])
    ∷ (negsuc 2147483648, 0x8f ∷ 0xff ∷ 0xff ∷ 0xff ∷ 0x7f ∷ 0xff ∷ 0xff ∷ 0xff ∷ 0xff ∷ [])
    ∷ (pos 9223372036854775807, 0x8f ∷ 0xff ∷ 0xff ∷ 0xff ∷ 0xff ∷ 0xff ∷ 0xff ∷ 0xff ∷ 0x7f ∷ [])
    ∷ (
      negsuc 9223372036854775807,
      0x8f ∷ 0x00 ∷ 0x00 ∷ 0x00 ∷ 0x00 ∷ 0x00 ∷ 0x00 ∷ 0x00 ∷ 0x80 ∷ [],
    )
    ∷ (pos 9223372036854775808, 0xb3 ∷ 0x00 ∷ 0x00 ∷ 0x00 ∷ 0x00 ∷ 0x00 ∷ 0x00 ∷ 0x00 ∷ 0x80 ∷ [])
    ∷ (
      pos 18446744073709551615,
      0xb3 ∷ 0xff ∷ 0xff ∷ 0xff ∷ 0xff ∷ 0xff ∷ 0xff ∷ 0xff ∷ 0xff ∷ [],
    )
    ∷ [])
unfolding writing_on_literals
numbers = refl

-- values of each other kind, before an end of an element and not
values : AreInside (
    (text (Truth false) ∷ text (Truth true) ∷ [], 0x84 ∷ 0x87 ∷ [])
    ∷ (
      text (Float 1) ∷ text (Double 2) ∷ [],
      0x90 ∷ 0x01 ∷ 0x00 ∷ 0x00 ∷ 0x00 ∷ 0x93 ∷ 0x02 ∷ 0x00 ∷ 0x00 ∷ 0x00 ∷ 0x00 ∷ 0x00 ∷ 0x00
          ∷ 0x00 ∷ [],
    )
    ∷ (
      text (Decimal (record { scale = 2; negative = true; magnitude = 5 })) ∷ [],
      0x95 ∷ 0x00 ∷ 0x00 ∷ 0x02 ∷ 0x80 ∷ 0x00 ∷ 0x00 ∷ 0x00 ∷ 0x00 ∷ 0x05 ∷ 0x00 ∷ 0x00 ∷ 0x00
          ∷ 0x00 ∷ 0x00 ∷ 0x00 ∷ 0x00 ∷ [],
    )
    ∷ (
      text (DateTime 3) ∷ text (TimeSpan (negsuc 0)) ∷ [],
      0x96 ∷ 0x03 ∷ 0x00 ∷ 0x00 ∷ 0x00 ∷ 0x00 ∷ 0x00 ∷ 0x00 ∷ 0x00 ∷ 0xaf ∷ 0xff ∷ 0xff ∷ 0xff
          ∷ 0xff ∷ 0xff ∷ 0xff ∷ 0xff ∷ 0xff ∷ [],
    )
    ∷ (text (Bytes (9 ∷ [])) ∷ text (Bytes []) ∷ [], 0x9e ∷ 0x01 ∷ 0x09 ∷ 0x9f ∷ 0x00 ∷ [])
    ∷ (
      text (UniqueId message) ∷ text (Uuid message) ∷ [],
      0xac ∷ 0x33 ∷ 0x22 ∷ 0x11 ∷ 0x00 ∷ 0x55 ∷ 0x44 ∷ 0x77 ∷ 0x66 ∷ 0x88 ∷ 0x99 ∷ 0xaa ∷ 0xbb
          ∷ 0xcc ∷ 0xdd ∷ 0xee ∷ 0xff ∷ 0xb1 ∷ 0x33 ∷ 0x22 ∷ 0x11 ∷ 0x00 ∷ 0x55 ∷ 0x44 ∷ 0x77
          ∷ 0x66 ∷ 0x88 ∷ 0x99 ∷ 0xaa ∷ 0xbb ∷ 0xcc ∷ 0xdd ∷ 0xee ∷ 0xff ∷ [],
    )
    ∷ [])
unfolding writing_on_literals
values = refl

-- a list, one right before an end of an element, an empty one, one in an attribute
lists : AreInside ((
  Text (ListOf (Number (pos 1) ∷ Truth true ∷ [])) ∷ Comment [] ∷ [],
  0xa4 ∷ 0x82 ∷ 0x86 ∷ 0xa6 ∷ 0x02 ∷ 0x00 ∷ 0x01 ∷ [],
)
    ∷ (Text (ListOf (Number (pos 1) ∷ [])) ∷ [], 0xa4 ∷ 0x82 ∷ 0xa7 ∷ [])
    ∷ (Text (ListOf []) ∷ [], 0xa4 ∷ 0xa7 ∷ [])
    ∷ (
      Attr [] (codes "k") (ListOf (Number (pos 0) ∷ Number (pos 1) ∷ [])) ∷ [],
      0x04 ∷ 0x01 ∷ 0x6b ∷ 0xa4 ∷ 0x80 ∷ 0x82 ∷ 0xa6 ∷ 0x01 ∷ [],
    )
    ∷ [])
unfolding writing_on_literals
lists = refl

-- texts in a list: one that a name has brought, others, an empty one, a static string
texts_in_lists : AreChosen ((
  2048,
  [],
  x (Text (ListOf (TextOf (codes "x") ∷ TextOf (codes "y") ∷ TextOf []
      ∷ TextOf (codes "To") ∷ [])) ∷ []),
  0x02 ∷ 0x01 ∷ 0x78 ∷ 0x42 ∷ 0x01 ∷ 0xa4 ∷ 0xaa ∷ 0x01 ∷ 0x98 ∷ 0x01 ∷ 0x79 ∷ 0xa8 ∷ 0xaa
      ∷ 0x0c ∷ 0xa7 ∷ [],
  codes "x" ∷ [],
)
    ∷ [])
unfolding writing_on_literals
texts_in_lists = refl

-- texts and bytes at the edges of the widths of their length
abbrev many : ℕ → List ℕ
many n = repeat n (0x79 ∷ [])

lengths : AreInside (
    (text (TextOf (many 255)) ∷ [], 0x99 ∷ 0xff ∷ many 255)
    ∷ (text (TextOf (many 256)) ∷ [], 0x9b ∷ 0x00 ∷ 0x01 ∷ many 256)
    ∷ (text (Bytes (many 255)) ∷ [], 0x9f ∷ 0xff ∷ many 255)
    ∷ (text (TextOf (many 65535)) ∷ [], 0x9b ∷ 0xff ∷ 0xff ∷ many 65535)
    ∷ (text (TextOf (many 65536)) ∷ [], 0x9d ∷ 0x00 ∷ 0x00 ∷ 0x01 ∷ 0x00 ∷ many 65536)
    ∷ (text (Bytes (many 256)) ∷ [], 0xa1 ∷ 0x00 ∷ 0x01 ∷ many 256)
    ∷ (text (Bytes (many 65535)) ∷ [], 0xa1 ∷ 0xff ∷ 0xff ∷ many 65535)
    ∷ (text (Bytes (many 65536)) ∷ [], 0xa3 ∷ 0x00 ∷ 0x00 ∷ 0x01 ∷ 0x00 ∷ many 65536)
    ∷ [])
unfolding writing_on_literals
lengths = refl
