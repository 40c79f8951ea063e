-- Each text record, by computation alone: a node, and the bytes that are read as it and written of
-- it; of other spellings, that are read as it.
use Rattle.std.proofs.Common.{ℕ, true, false, List, [], ◌∷◌, pos, negsuc, refl}
use Rattle.nbfx_values.specs.declared.scalars.{Dec.Dec, Scalar.Scalar}
use Rattle.nbfx_values.specs.declared.scalars.Scalar.TheVariants.{Bytes, DateTime, Decimal, Double}
use Rattle.nbfx_values.specs.declared.scalars.Scalar.TheVariants.{Float, Number, Text as TextOf}
use Rattle.nbfx_values.specs.declared.scalars.Scalar.TheVariants.{TimeSpan, Truth, UniqueId, Uuid}
use Rattle.nbfx_records.specs.declared.nodes.Node.{Node, TheVariants.Text}
use Rattle.nbfx_records.specs.declared.nodes.RawScalar.TheVariants.{Dictionary, Known, QName}
use Rattle.nbfx_records.specs.declared.nodes.RawValue.TheVariants.{List as ListOf, One}
use Rattle.nbfx_records.proofs.OnLiterals.{AllRead, AllWritten, records_on_literals}

-- a text of one value, and one with which its element ends
abbrev plain : Scalar → Node
plain scalar = Text (One (Known scalar)) false

abbrev last : Scalar → Node
last scalar = Text (One (Known scalar)) true

abbrev identifier : List ℕ
identifier = 0x33 ∷ 0x22 ∷ 0x11 ∷ 0 ∷ 0x55 ∷ 0x44 ∷ 0x77 ∷ 0x66
    ∷ 0x88 ∷ 0x99 ∷ 0xaa ∷ 0xbb ∷ 0xcc ∷ 0xdd ∷ 0xee ∷ 0xff ∷ []

abbrev decimal : Dec
decimal = record { scale = 28; negative = true; magnitude = 55340232221128654853 }

abbrev decimal_bytes : List ℕ
decimal_bytes = 0 ∷ 0 ∷ 0x1c ∷ 0x80 ∷ 3 ∷ 0 ∷ 0 ∷ 0 ∷ 5 ∷ 0 ∷ 0 ∷ 0 ∷ 0 ∷ 0 ∷ 0 ∷ 0 ∷ []

-- numbers, each in the fewest bytes
numbers : AllWritten (
    (plain (Number (pos 0)), 0x80 ∷ []) ∷
    (plain (Number (pos 1)), 0x82 ∷ []) ∷
    (plain (Number (pos 2)), 0x88 ∷ 2 ∷ []) ∷
    (plain (Number (negsuc 0)), 0x88 ∷ 0xff ∷ []) ∷
    (plain (Number (pos 127)), 0x88 ∷ 0x7f ∷ []) ∷
    (plain (Number (negsuc 127)), 0x88 ∷ 0x80 ∷ []) ∷
    (plain (Number (pos 128)), 0x8a ∷ 0x80 ∷ 0 ∷ []) ∷
    (plain (Number (negsuc 128)), 0x8a ∷ 0x7f ∷ 0xff ∷ []) ∷
    (plain (Number (pos 32767)), 0x8a ∷ 0xff ∷ 0x7f ∷ []) ∷
    (plain (Number (negsuc 32767)), 0x8a ∷ 0 ∷ 0x80 ∷ []) ∷
    (plain (Number (pos 32768)), 0x8c ∷ 0 ∷ 0x80 ∷ 0 ∷ 0 ∷ []) ∷
    (plain (Number (negsuc 32768)), 0x8c ∷ 0xff ∷ 0x7f ∷ 0xff ∷ 0xff ∷ []) ∷
    (plain (Number (pos 2147483647)), 0x8c ∷ 0xff ∷ 0xff ∷ 0xff ∷ 0x7f ∷ []) ∷
    (plain (Number (negsuc 2147483647)), 0x8c ∷ 0 ∷ 0 ∷ 0 ∷ 0x80 ∷ []) ∷
    (plain (Number (pos 2147483648)), 0x8e ∷ 0 ∷ 0 ∷ 0 ∷ 0x80 ∷ 0 ∷ 0 ∷ 0 ∷ 0 ∷ []) ∷ (
      plain (Number (negsuc 2147483648)),
      0x8e ∷ 0xff ∷ 0xff ∷ 0xff ∷ 0x7f ∷ 0xff ∷ 0xff ∷ 0xff ∷ 0xff ∷ [],
    ) ∷ (
      plain (Number (pos 9223372036854775807)),
      0x8e ∷ 0xff ∷ 0xff ∷ 0xff ∷ 0xff ∷ 0xff ∷ 0xff ∷ 0xff ∷ 0x7f ∷ [],
    ) ∷
    (plain (Number (negsuc 9223372036854775807)), 0x8e ∷ 0 ∷ 0 ∷ 0 ∷ 0 ∷ 0 ∷ 0 ∷ 0 ∷ 0x80 ∷ []) ∷
    (plain (Number (pos 9223372036854775808)), 0xb2 ∷ 0 ∷ 0 ∷ 0 ∷ 0 ∷ 0 ∷ 0 ∷ 0 ∷ 0x80 ∷ []) ∷ (
      plain (Number (pos 18446744073709551615)),
      0xb2 ∷ 0xff ∷ 0xff ∷ 0xff ∷ 0xff ∷ 0xff ∷ 0xff ∷ 0xff ∷ 0xff ∷ [],
    ) ∷
    [])
unfolding records_on_literals
numbers = (refl, refl)

-- values of each other kind
other_values : AllWritten (
    (plain (Truth false), 0x84 ∷ []) ∷
    (plain (Truth true), 0x86 ∷ []) ∷
    (plain (Float 1065353216), 0x90 ∷ 0 ∷ 0 ∷ 0x80 ∷ 0x3f ∷ []) ∷
    (plain (Double 4607182418800017408), 0x92 ∷ 0 ∷ 0 ∷ 0 ∷ 0 ∷ 0 ∷ 0 ∷ 0xf0 ∷ 0x3f ∷ []) ∷
    (plain (Decimal decimal), 0x94 ∷ decimal_bytes) ∷
    (plain (DateTime 637259347272925185), 0x96 ∷ 1 ∷ 0 ∷ 0 ∷ 0 ∷ 0 ∷ 0 ∷ 0xd8 ∷ 8 ∷ []) ∷
    (plain (TextOf (0x68 ∷ 0x69 ∷ [])), 0x98 ∷ 2 ∷ 0x68 ∷ 0x69 ∷ []) ∷
    (plain (Bytes (0 ∷ 0xff ∷ [])), 0x9e ∷ 2 ∷ 0 ∷ 0xff ∷ []) ∷
    (plain (Bytes []), 0x9e ∷ 0 ∷ []) ∷
    (plain (TextOf []), 0xa8 ∷ []) ∷
    (Text (One (Dictionary 129)) false, 0xaa ∷ 0x81 ∷ 1 ∷ []) ∷
    (plain (UniqueId identifier), 0xac ∷ identifier) ∷ (
      plain (TimeSpan (negsuc 0)),
      0xae ∷ 0xff ∷ 0xff ∷ 0xff ∷ 0xff ∷ 0xff ∷ 0xff ∷ 0xff ∷ 0xff ∷ [],
    ) ∷
    (plain (Uuid identifier), 0xb0 ∷ identifier) ∷
    (Text (One (QName 25 3)) false, 0xbc ∷ 0x19 ∷ 3 ∷ []) ∷
    [])
unfolding records_on_literals
other_values = (refl, refl)

-- lists
lists : AllWritten (
    (Text (ListOf []) false, 0xa4 ∷ 0xa6 ∷ []) ∷ (
      Text (ListOf (Known (Number (pos 1)) ∷ Known (TextOf (0x61 ∷ [])) ∷ Dictionary 3 ∷ [])) false,
      0xa4 ∷ 0x82 ∷ 0x98 ∷ 1 ∷ 0x61 ∷ 0xaa ∷ 3 ∷ 0xa6 ∷ [],
    ) ∷
    (Text (ListOf (Known (Number (pos 5)) ∷ [])) true, 0xa4 ∷ 0x88 ∷ 5 ∷ 0xa7 ∷ []) ∷
    [])
unfolding records_on_literals
lists = (refl, refl)

-- texts with which their element ends
last_values : AllWritten (
    (last (Number (pos 0)), 0x81 ∷ []) ∷
    (last (Number (pos 1)), 0x83 ∷ []) ∷
    (last (Truth true), 0x87 ∷ []) ∷
    (last (Number (negsuc 127)), 0x89 ∷ 0x80 ∷ []) ∷
    (last (Number (pos 128)), 0x8b ∷ 0x80 ∷ 0 ∷ []) ∷
    (last (TextOf (0x68 ∷ 0x69 ∷ [])), 0x99 ∷ 2 ∷ 0x68 ∷ 0x69 ∷ []) ∷
    (last (Bytes (7 ∷ [])), 0x9f ∷ 1 ∷ 7 ∷ []) ∷
    (last (TextOf []), 0xa9 ∷ []) ∷
    (Text (One (Dictionary 3)) true, 0xab ∷ 3 ∷ []) ∷
    (last (Uuid identifier), 0xb1 ∷ identifier) ∷
    (last (Number (pos 9223372036854775808)), 0xb3 ∷ 0 ∷ 0 ∷ 0 ∷ 0 ∷ 0 ∷ 0 ∷ 0 ∷ 0x80 ∷ []) ∷
    (Text (One (QName 0 2)) true, 0xbd ∷ 0 ∷ 2 ∷ []) ∷
    (last (Truth false), 0x85 ∷ []) ∷
    (last (Number (negsuc 32768)), 0x8d ∷ 0xff ∷ 0x7f ∷ 0xff ∷ 0xff ∷ []) ∷
    (last (Number (negsuc 9223372036854775807)), 0x8f ∷ 0 ∷ 0 ∷ 0 ∷ 0 ∷ 0 ∷ 0 ∷ 0 ∷ 0x80 ∷ []) ∷
    (last (Float 1065353216), 0x91 ∷ 0 ∷ 0 ∷ 0x80 ∷ 0x3f ∷ []) ∷
    (last (Double 4607182418800017408), 0x93 ∷ 0 ∷ 0 ∷ 0 ∷ 0 ∷ 0 ∷ 0 ∷ 0xf0 ∷ 0x3f ∷ []) ∷
    (last (Decimal decimal), 0x95 ∷ decimal_bytes) ∷
    (last (DateTime 637259347272925185), 0x97 ∷ 1 ∷ 0 ∷ 0 ∷ 0 ∷ 0 ∷ 0 ∷ 0xd8 ∷ 8 ∷ []) ∷
    (last (UniqueId identifier), 0xad ∷ identifier) ∷ (
      last (TimeSpan (negsuc 0)),
      0xaf ∷ 0xff ∷ 0xff ∷ 0xff ∷ 0xff ∷ 0xff ∷ 0xff ∷ 0xff ∷ 0xff ∷ [],
    ) ∷ (
      last (Number (pos 18446744073709551615)),
      0xb3 ∷ 0xff ∷ 0xff ∷ 0xff ∷ 0xff ∷ 0xff ∷ 0xff ∷ 0xff ∷ 0xff ∷ [],
    ) ∷
    [])
unfolding records_on_literals
last_values = (refl, refl)

-- other spellings
other_spellings : AllRead (
    (plain (Number (pos 0)), 0x88 ∷ 0 ∷ []) ∷
    (plain (Number (pos 1)), 0x8a ∷ 1 ∷ 0 ∷ []) ∷
    (plain (Number (pos 5)), 0x8c ∷ 5 ∷ 0 ∷ 0 ∷ 0 ∷ []) ∷
    (plain (Number (pos 5)), 0x8e ∷ 5 ∷ 0 ∷ 0 ∷ 0 ∷ 0 ∷ 0 ∷ 0 ∷ 0 ∷ []) ∷
    (plain (Number (pos 5)), 0xb2 ∷ 5 ∷ 0 ∷ 0 ∷ 0 ∷ 0 ∷ 0 ∷ 0 ∷ 0 ∷ []) ∷
    (plain (Truth false), 0xb4 ∷ 0 ∷ []) ∷
    (plain (Truth true), 0xb4 ∷ 1 ∷ []) ∷
    (plain (TextOf []), 0x98 ∷ 0 ∷ []) ∷
    (plain (TextOf (0x68 ∷ 0x69 ∷ [])), 0x9a ∷ 2 ∷ 0 ∷ 0x68 ∷ 0x69 ∷ []) ∷
    (plain (TextOf (0x68 ∷ 0x69 ∷ [])), 0x9c ∷ 2 ∷ 0 ∷ 0 ∷ 0 ∷ 0x68 ∷ 0x69 ∷ []) ∷
    (plain (Bytes (7 ∷ [])), 0xa0 ∷ 1 ∷ 0 ∷ 7 ∷ []) ∷
    (plain (Bytes (7 ∷ [])), 0xa2 ∷ 1 ∷ 0 ∷ 0 ∷ 0 ∷ 7 ∷ []) ∷
    (plain (TextOf (0x68 ∷ 0x69 ∷ [])), 0xb6 ∷ 4 ∷ 0x68 ∷ 0 ∷ 0x69 ∷ 0 ∷ []) ∷
    (plain (TextOf (0x68 ∷ 0x69 ∷ [])), 0xb8 ∷ 4 ∷ 0 ∷ 0x68 ∷ 0 ∷ 0x69 ∷ 0 ∷ []) ∷
    (plain (TextOf (0x68 ∷ 0x69 ∷ [])), 0xba ∷ 4 ∷ 0 ∷ 0 ∷ 0 ∷ 0x68 ∷ 0 ∷ 0x69 ∷ 0 ∷ []) ∷
    (plain (TextOf (0xf0 ∷ 0x9f ∷ 0x98 ∷ 0x80 ∷ [])), 0xb6 ∷ 4 ∷ 0x3d ∷ 0xd8 ∷ 0 ∷ 0xde ∷ []) ∷
    (plain (TextOf []), 0xb6 ∷ 0 ∷ []) ∷
    (Text (One (Dictionary 3)) false, 0xaa ∷ 0x83 ∷ 0x80 ∷ 0 ∷ []) ∷ (
      plain (Decimal (record { scale = 0; negative = false; magnitude = 1 })),
      0x94 ∷ 0xab ∷ 0xcd ∷ 0 ∷ 0 ∷ 0 ∷ 0 ∷ 0 ∷ 0 ∷ 1 ∷ 0 ∷ 0 ∷ 0 ∷ 0 ∷ 0 ∷ 0 ∷ 0 ∷ [],
    ) ∷
    [])
unfolding records_on_literals
other_spellings = refl

-- and of texts with which their element ends
other_last_spellings : AllRead (
    (last (Number (pos 5)), 0x8d ∷ 5 ∷ 0 ∷ 0 ∷ 0 ∷ []) ∷
    (last (TextOf (0x68 ∷ 0x69 ∷ [])), 0x9b ∷ 2 ∷ 0 ∷ 0x68 ∷ 0x69 ∷ []) ∷
    (last (TextOf (0x68 ∷ 0x69 ∷ [])), 0x9d ∷ 2 ∷ 0 ∷ 0 ∷ 0 ∷ 0x68 ∷ 0x69 ∷ []) ∷
    (last (Bytes (7 ∷ [])), 0xa1 ∷ 1 ∷ 0 ∷ 7 ∷ []) ∷
    (last (Bytes (7 ∷ [])), 0xa3 ∷ 1 ∷ 0 ∷ 0 ∷ 0 ∷ 7 ∷ []) ∷
    (last (Truth true), 0xb5 ∷ 1 ∷ []) ∷
    (last (TextOf (0x68 ∷ 0x69 ∷ [])), 0xb7 ∷ 4 ∷ 0x68 ∷ 0 ∷ 0x69 ∷ 0 ∷ []) ∷
    (last (TextOf (0x68 ∷ 0x69 ∷ [])), 0xb9 ∷ 4 ∷ 0 ∷ 0x68 ∷ 0 ∷ 0x69 ∷ 0 ∷ []) ∷
    (last (TextOf (0x68 ∷ 0x69 ∷ [])), 0xbb ∷ 4 ∷ 0 ∷ 0 ∷ 0 ∷ 0x68 ∷ 0 ∷ 0x69 ∷ 0 ∷ []) ∷
    [])
unfolding records_on_literals
other_last_spellings = refl
