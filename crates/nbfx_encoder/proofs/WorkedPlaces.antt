-- Worked names, and the order in which they are placed, computed by the definitions.
use Rattle.std.proofs.Common.{ℕ, List, [], ◌∷◌, ◌++◌, pos, codes, refl}
use Rattle.{std.specs.List.repeat, nbfx_values.specs.declared.scalars.Value.TheVariants.One}
use Rattle.nbfx_values.specs.declared.content.{ArrayKind.TheVariants.Int32, Item.Item}
use Rattle.nbfx_values.specs.declared.content.Item.TheVariants.{Array, Attr, Close, Start, Xmlns}
use Rattle.nbfx_values.specs.declared.scalars.Scalar.TheVariants.{Number, QName, Text as TextOf}
use Rattle.nbfx_encoder.proofs.OnLiterals.{AreChosen, ArePlain, Row, text, writing_on_literals, x}

-- what has a name
abbrev element : List ℕ → List Item
element name = Start [] name ∷ Close ∷ []

abbrev attribute : List ℕ → List Item
attribute name = Attr [] name (One (Number (pos 0))) ∷ []

abbrev declaration : List ℕ → List Item
declaration uri = Xmlns [] uri ∷ []

abbrev array : List ℕ → List Item
array name = Array (record {
  prefix = [];
  local = name;
  attrs = [];
  kind = Int32;
  values = Number (pos 1) ∷ [];
}) ∷ []

-- it in an element, under a static string, one of the session, a new one and one without room. The
-- bytes before an identifier are given, those before a string, and those after either.
abbrev under_each : (List ℕ → List Item) → (named inline rest : List ℕ) → List Row
under_each items named inline rest = (
  1,
  codes "x" ∷ [],
  x (items (codes "To")),
  0x00 ∷ 0x42 ∷ 0x01 ∷ (named ++ 0x0c ∷ rest),
  codes "x" ∷ [],
)
    ∷ (
      2,
      codes "x" ∷ codes "k" ∷ [],
      x (items (codes "k")),
      0x00 ∷ 0x42 ∷ 0x01 ∷ (named ++ 0x03 ∷ rest),
      codes "x" ∷ codes "k" ∷ [],
    )
    ∷ (
      2,
      codes "x" ∷ [],
      x (items (codes "k")),
      0x02 ∷ 0x01 ∷ 0x6b ∷ 0x42 ∷ 0x01 ∷ (named ++ 0x03 ∷ rest),
      codes "x" ∷ codes "k" ∷ [],
    )
    ∷ (
      1,
      codes "x" ∷ [],
      x (items (codes "k")),
      0x00 ∷ 0x42 ∷ 0x01 ∷ (inline ++ 0x01 ∷ 0x6b ∷ rest),
      codes "x" ∷ [],
    )
    ∷ []

named : AreChosen (
    under_each element (0x42 ∷ []) (0x40 ∷ []) (0x01 ∷ 0x01 ∷ [])
    ++ under_each attribute (0x06 ∷ []) (0x04 ∷ []) (0x80 ∷ 0x01 ∷ [])
    ++ under_each declaration (0x0a ∷ []) (0x08 ∷ []) (0x01 ∷ [])
    ++ under_each array (0x03 ∷ 0x42 ∷ []) (0x03 ∷ 0x40 ∷ [])
    (0x01 ∷ 0x8d ∷ 0x01 ∷ 0x01 ∷ 0x00 ∷ 0x00 ∷ 0x00 ∷ 0x01 ∷ []))
unfolding writing_on_literals
named = refl

-- an attribute's name is placed before the text and before the QName that is its value; a text that
-- a static string and one of the session are goes by the static one
ordered : AreChosen ((
  2048,
  codes "x" ∷ [],
  x (Attr [] (codes "k") (One (TextOf (codes "k"))) ∷ []),
  0x02 ∷ 0x01 ∷ 0x6b ∷ 0x42 ∷ 0x01 ∷ 0x06 ∷ 0x03 ∷ 0xaa ∷ 0x03 ∷ 0x01 ∷ [],
  codes "x" ∷ codes "k" ∷ [],
)
    ∷ (
      2048,
      codes "x" ∷ [],
      x (Attr [] (codes "k") (One (QName 0 (codes "q"))) ∷ []),
      0x04 ∷ 0x01 ∷ 0x6b ∷ 0x01 ∷ 0x71 ∷ 0x42 ∷ 0x01 ∷ 0x06 ∷ 0x03 ∷ 0xbc ∷ 0x00 ∷ 0x05 ∷ 0x01
          ∷ [],
      codes "x" ∷ codes "k" ∷ codes "q" ∷ [],
    )
    ∷ (
      2048,
      codes "x" ∷ codes "To" ∷ [],
      x (text (TextOf (codes "To")) ∷ []),
      0x00 ∷ 0x42 ∷ 0x01 ∷ 0xab ∷ 0x0c ∷ [],
      codes "x" ∷ codes "To" ∷ [],
    )
    ∷ [])
unfolding writing_on_literals
ordered = refl

-- names whose length, or that of the strings, has two bytes
abbrev many : ℕ → List ℕ
many n = repeat n (0x79 ∷ [])

long_names : AreChosen ((
  127,
  [],
  element (many 127),
  0x80 ∷ 0x01 ∷ 0x7f ∷ (many 127 ++ 0x42 ∷ 0x01 ∷ 0x01 ∷ []),
  many 127 ∷ [],
)
    ∷ (127, [], element (many 128), 0x00 ∷ 0x40 ∷ 0x80 ∷ 0x01 ∷ (many 128 ++ 0x01 ∷ []), [])
    ∷ (
      2048,
      [],
      element (many 2048),
      0x82 ∷ 0x10 ∷ 0x80 ∷ 0x10 ∷ (many 2048 ++ 0x42 ∷ 0x01 ∷ 0x01 ∷ []),
      many 2048 ∷ [],
    )
    ∷ (
      2048,
      many 2048 ∷ [],
      element (codes "b"),
      0x00 ∷ 0x40 ∷ 0x01 ∷ 0x62 ∷ 0x01 ∷ [],
      many 2048 ∷ [],
    )
    ∷ [])
unfolding writing_on_literals
long_names = refl

plain_names : ArePlain (
    (element (many 127), 0x40 ∷ 0x7f ∷ (many 127 ++ 0x01 ∷ []))
    ∷ (element (many 128), 0x40 ∷ 0x80 ∷ 0x01 ∷ (many 128 ++ 0x01 ∷ []))
    ∷ [])
unfolding writing_on_literals
plain_names = refl
