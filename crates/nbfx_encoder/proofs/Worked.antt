-- Worked payloads in their chosen spelling, computed by the definitions.
use Rattle.std.proofs.Common.{ℕ, true, false, List, [], ◌∷◌, ◌++◌, pos, negsuc, codes, refl}
use Rattle.std.specs.List.{repeat}
use Rattle.nbfx_values.specs.declared.content.ArrayKind.TheVariants.{Bool, Int32}
use Rattle.nbfx_values.specs.declared.content.AttrItem.TheVariants.{Attr as PartAttr}
use Rattle.nbfx_values.specs.declared.content.AttrItem.TheVariants.{Xmlns as PartXmlns}
use Rattle.nbfx_values.specs.declared.content.Item.{Item, TheVariants.Text, TheVariants.Xmlns}
use Rattle.nbfx_values.specs.declared.content.Item.TheVariants.{Array, Attr, Close, Comment, Start}
use Rattle.nbfx_values.specs.declared.scalars.Scalar.TheVariants.{Number, QName, Text as TextOf}
use Rattle.nbfx_values.specs.declared.scalars.Scalar.TheVariants.{Truth, UniqueId}
use Rattle.nbfx_values.specs.declared.scalars.Value.TheVariants.{List as ListOf, One}
use Rattle.nbfx_encoder.proofs.OnLiterals.{AreChosen, AreInside, ArePlain, message, text}
use Rattle.nbfx_encoder.proofs.OnLiterals.{writing_on_literals, x}

-- an envelope with an action, an identifier and a body of one text
abbrev envelope : List Item
envelope = Start (codes "s") (codes "Envelope")
    ∷ Xmlns (codes "s") (codes "http://www.w3.org/2003/05/soap-envelope")
    ∷ Xmlns (codes "a") (codes "http://www.w3.org/2005/08/addressing")
    ∷ Start (codes "s") (codes "Header")
    ∷ Start (codes "a") (codes "Action")
    ∷ Attr (codes "s") (codes "mustUnderstand") (One (Number (pos 1)))
    ∷ text (TextOf (codes "urn:echo"))
    ∷ Close
    ∷ Start (codes "a") (codes "MessageID")
    ∷ text (UniqueId message)
    ∷ Close
    ∷ Close
    ∷ Start (codes "s") (codes "Body")
    ∷ Start [] (codes "x")
    ∷ text (TextOf (codes "hi"))
    ∷ Close
    ∷ Close
    ∷ Close ∷ []

-- its bytes up to the name of what Body holds, and those after it
abbrev before_name : List ℕ
before_name = 0x56 ∷ 0x02 ∷ 0x0b ∷ 0x01 ∷ 0x73 ∷ 0x04 ∷ 0x0b ∷ 0x01 ∷ 0x61 ∷ 0x06 ∷ 0x56 ∷ 0x08
    ∷ 0x44 ∷ 0x0a ∷ 0x1e ∷ 0x00 ∷ 0x82 ∷ 0x99 ∷ 0x08 ∷ 0x75 ∷ 0x72 ∷ 0x6e ∷ 0x3a ∷ 0x65 ∷ 0x63
    ∷ 0x68 ∷ 0x6f ∷ 0x44 ∷ 0x1a ∷ 0xad ∷ 0x33 ∷ 0x22 ∷ 0x11 ∷ 0x00 ∷ 0x55 ∷ 0x44 ∷ 0x77 ∷ 0x66
    ∷ 0x88 ∷ 0x99 ∷ 0xaa ∷ 0xbb ∷ 0xcc ∷ 0xdd ∷ 0xee ∷ 0xff ∷ 0x01 ∷ 0x56 ∷ 0x0e ∷ []

abbrev behind_name : List ℕ
behind_name = 0x99 ∷ 0x02 ∷ 0x68 ∷ 0x69 ∷ 0x01 ∷ 0x01 ∷ []

-- an envelope, the next one of the session, and one without strings of a session
envelopes : AreChosen ((
  2048,
  [],
  envelope,
  0x02 ∷ 0x01 ∷ 0x78 ∷ (before_name ++ 0x42 ∷ 0x01 ∷ behind_name),
  codes "x" ∷ [],
)
    ∷ (
      2048,
      codes "x" ∷ [],
      envelope,
      0x00 ∷ (before_name ++ 0x42 ∷ 0x01 ∷ behind_name),
      codes "x" ∷ [],
    )
    ∷ [])
unfolding writing_on_literals
envelopes = refl

plain_envelopes : ArePlain (
    (envelope, before_name ++ 0x40 ∷ 0x01 ∷ 0x78 ∷ behind_name)
    ∷ [])
unfolding writing_on_literals
plain_envelopes = refl

-- a name that the static strings have twice, one that the session has twice, one that both have, a
-- new one, one without room and a shorter one that has it, one without room, and an empty one
names : AreChosen (
    (2048, [], Start [] (codes "Body") ∷ Close ∷ [], 0x00 ∷ 0x42 ∷ 0x0e ∷ 0x01 ∷ [], [])
    ∷ (
      2048,
      codes "y" ∷ codes "x" ∷ codes "x" ∷ [],
      Start [] (codes "x") ∷ Close ∷ [],
      0x00 ∷ 0x42 ∷ 0x03 ∷ 0x01 ∷ [],
      codes "y" ∷ codes "x" ∷ codes "x" ∷ [],
    )
    ∷ (
      2048,
      codes "Body" ∷ [],
      Start [] (codes "Body") ∷ Close ∷ [],
      0x00 ∷ 0x42 ∷ 0x0e ∷ 0x01 ∷ [],
      codes "Body" ∷ [],
    )
    ∷ (
      2048,
      codes "y" ∷ [],
      Start [] (codes "x") ∷ Close ∷ [],
      0x02 ∷ 0x01 ∷ 0x78 ∷ 0x42 ∷ 0x03 ∷ 0x01 ∷ [],
      codes "y" ∷ codes "x" ∷ [],
    )
    ∷ (
      2,
      codes "y" ∷ [],
      Start [] (codes "xx") ∷ Start [] (codes "x") ∷ Close ∷ Close ∷ [],
      0x02 ∷ 0x01 ∷ 0x78 ∷ 0x40 ∷ 0x02 ∷ 0x78 ∷ 0x78 ∷ 0x42 ∷ 0x03 ∷ 0x01 ∷ 0x01 ∷ [],
      codes "y" ∷ codes "x" ∷ [],
    )
    ∷ (
      1,
      codes "y" ∷ [],
      Start [] (codes "x") ∷ Close ∷ [],
      0x00 ∷ 0x40 ∷ 0x01 ∷ 0x78 ∷ 0x01 ∷ [],
      codes "y" ∷ [],
    )
    ∷ (1, [], Start [] [] ∷ Close ∷ [], 0x01 ∷ 0x00 ∷ 0x42 ∷ 0x01 ∷ 0x01 ∷ [], [] ∷ [])
    ∷ [])
unfolding writing_on_literals
names = refl

-- an identifier of two bytes
abbrev sixty_four : List (List ℕ)
sixty_four = repeat 64 (codes "y" ∷ [])

many_names : AreChosen ((
  2048,
  sixty_four,
  x [],
  0x02 ∷ 0x01 ∷ 0x78 ∷ 0x42 ∷ 0x81 ∷ 0x01 ∷ 0x01 ∷ [],
  sixty_four ++ codes "x" ∷ [],
)
    ∷ [])
unfolding writing_on_literals
many_names = refl

-- prefixes of no letter, of one from a to z, of one that is none of these, of two
prefixes : ArePlain (
    (Start [] (codes "x") ∷ Close ∷ [], 0x40 ∷ 0x01 ∷ 0x78 ∷ 0x01 ∷ [])
    ∷ (Start (codes "a") (codes "x") ∷ Close ∷ [], 0x5e ∷ 0x01 ∷ 0x78 ∷ 0x01 ∷ [])
    ∷ (Start (codes "z") (codes "x") ∷ Close ∷ [], 0x77 ∷ 0x01 ∷ 0x78 ∷ 0x01 ∷ [])
    ∷ (Start (codes "A") (codes "x") ∷ Close ∷ [], 0x41 ∷ 0x01 ∷ 0x41 ∷ 0x01 ∷ 0x78 ∷ 0x01 ∷ [])
    ∷ (
      Start (codes "aa") (codes "x") ∷ Close ∷ [],
      0x41 ∷ 0x02 ∷ 0x61 ∷ 0x61 ∷ 0x01 ∷ 0x78 ∷ 0x01 ∷ [],
    )
    ∷ (Start (codes "a") (codes "Body") ∷ Close ∷ [], 0x44 ∷ 0x0e ∷ 0x01 ∷ [])
    ∷ (
      Start (codes "aa") (codes "Body") ∷ Close ∷ [],
      0x43 ∷ 0x02 ∷ 0x61 ∷ 0x61 ∷ 0x0e ∷ 0x01 ∷ [],
    )
    ∷ (
      Start [] (codes "x") ∷ Attr [] (codes "k") (One (Number (pos 1)))
          ∷ Attr (codes "z") (codes "k") (One (Number (pos 1)))
          ∷ Attr (codes "zz") (codes "k") (One (Number (pos 1)))
          ∷ Attr (codes "Z") (codes "k") (One (Number (pos 1))) ∷ Close ∷ [],
      0x40 ∷ 0x01 ∷ 0x78 ∷ 0x04 ∷ 0x01 ∷ 0x6b ∷ 0x82 ∷ 0x3f ∷ 0x01 ∷ 0x6b ∷ 0x82 ∷ 0x05 ∷ 0x02
          ∷ 0x7a ∷ 0x7a ∷ 0x01 ∷ 0x6b ∷ 0x82 ∷ 0x05 ∷ 0x01 ∷ 0x5a ∷ 0x01 ∷ 0x6b ∷ 0x82 ∷ 0x01
          ∷ [],
    )
    ∷ (
      Start [] (codes "x") ∷ Attr [] (codes "To") (One (Number (pos 0)))
          ∷ Attr (codes "a") (codes "To") (One (Number (pos 0)))
          ∷ Attr (codes "aa") (codes "To") (One (Number (pos 0))) ∷ Close ∷ [],
      0x40 ∷ 0x01 ∷ 0x78 ∷ 0x06 ∷ 0x0c ∷ 0x80 ∷ 0x0c ∷ 0x0c ∷ 0x80 ∷ 0x07 ∷ 0x02 ∷ 0x61 ∷ 0x61
          ∷ 0x0c ∷ 0x80 ∷ 0x01 ∷ [],
    )
    ∷ (
      Start [] (codes "x") ∷ Xmlns [] (codes "u") ∷ Xmlns (codes "a") (codes "u")
          ∷ Xmlns [] (codes "To") ∷ Xmlns (codes "a") (codes "To") ∷ Close ∷ [],
      0x40 ∷ 0x01 ∷ 0x78 ∷ 0x08 ∷ 0x01 ∷ 0x75 ∷ 0x09 ∷ 0x01 ∷ 0x61 ∷ 0x01 ∷ 0x75 ∷ 0x0a ∷ 0x0c
          ∷ 0x0b ∷ 0x01 ∷ 0x61 ∷ 0x0c ∷ 0x01 ∷ [],
    )
    ∷ [])
unfolding writing_on_literals
prefixes = refl

-- a text that an identifier names, one that a name before it has brought, one that a name after it
-- brings, an empty one, also where the session has that, one that no name brings, and one that the
-- name of its attribute has brought
texts : AreChosen ((
  2048,
  [],
  Start [] (codes "x") ∷ text (TextOf (codes "Body")) ∷ Close ∷ [],
  0x02 ∷ 0x01 ∷ 0x78 ∷ 0x42 ∷ 0x01 ∷ 0xab ∷ 0x0e ∷ [],
  codes "x" ∷ [],
)
    ∷ (
      2048,
      [],
      Start [] (codes "x") ∷ text (TextOf (codes "x")) ∷ Close ∷ [],
      0x02 ∷ 0x01 ∷ 0x78 ∷ 0x42 ∷ 0x01 ∷ 0xab ∷ 0x01 ∷ [],
      codes "x" ∷ [],
    )
    ∷ (
      2048,
      [],
      Start [] (codes "x") ∷ text (TextOf (codes "y")) ∷ Start [] (codes "y") ∷ Close ∷ Close ∷ [],
      0x04 ∷ 0x01 ∷ 0x78 ∷ 0x01 ∷ 0x79 ∷ 0x42 ∷ 0x01 ∷ 0x98 ∷ 0x01 ∷ 0x79 ∷ 0x42 ∷ 0x03 ∷ 0x01
          ∷ 0x01 ∷ [],
      codes "x" ∷ codes "y" ∷ [],
    )
    ∷ (
      2048,
      [],
      Start [] (codes "x") ∷ text (TextOf []) ∷ Close ∷ [],
      0x02 ∷ 0x01 ∷ 0x78 ∷ 0x42 ∷ 0x01 ∷ 0xa9 ∷ [],
      codes "x" ∷ [],
    )
    ∷ (
      2048,
      [] ∷ [],
      Start [] (codes "x") ∷ text (TextOf []) ∷ Close ∷ [],
      0x02 ∷ 0x01 ∷ 0x78 ∷ 0x42 ∷ 0x03 ∷ 0xa9 ∷ [],
      [] ∷ codes "x" ∷ [],
    )
    ∷ (
      2048,
      [],
      Start [] (codes "x") ∷ text (TextOf (codes "y")) ∷ text (TextOf (codes "y")) ∷ Close ∷ [],
      0x02 ∷ 0x01 ∷ 0x78 ∷ 0x42 ∷ 0x01 ∷ 0x98 ∷ 0x01 ∷ 0x79 ∷ 0x99 ∷ 0x01 ∷ 0x79 ∷ [],
      codes "x" ∷ [],
    )
    ∷ (
      2048,
      [],
      Start [] (codes "x") ∷ Attr [] (codes "x") (One (TextOf (codes "x"))) ∷ Close ∷ [],
      0x02 ∷ 0x01 ∷ 0x78 ∷ 0x42 ∷ 0x01 ∷ 0x06 ∷ 0x01 ∷ 0xaa ∷ 0x01 ∷ 0x01 ∷ [],
      codes "x" ∷ [],
    )
    ∷ [])
unfolding writing_on_literals
texts = refl

-- a comment after a text
comments : AreInside ((
  text (TextOf (codes "hi")) ∷ Comment (codes "c") ∷ [],
  0x98 ∷ 0x02 ∷ 0x68 ∷ 0x69 ∷ 0x02 ∷ 0x01 ∷ 0x63 ∷ 0x01 ∷ [],
)
    ∷ [])
unfolding writing_on_literals
comments = refl

-- QNames by a static string, by one of the session, by a new one, and in a list, where a text takes
-- what they bring
qnames : AreChosen ((
  2048,
  [],
  Start [] (codes "x") ∷ text (QName 1 (codes "To")) ∷ Close ∷ [],
  0x02 ∷ 0x01 ∷ 0x78 ∷ 0x42 ∷ 0x01 ∷ 0xbd ∷ 0x01 ∷ 0x0c ∷ [],
  codes "x" ∷ [],
)
    ∷ (
      2048,
      codes "q" ∷ codes "x" ∷ [],
      Start [] (codes "x") ∷ text (QName 0 (codes "q")) ∷ Close ∷ [],
      0x00 ∷ 0x42 ∷ 0x03 ∷ 0xbd ∷ 0x00 ∷ 0x01 ∷ [],
      codes "q" ∷ codes "x" ∷ [],
    )
    ∷ (
      2048,
      [],
      Start [] (codes "x") ∷ text (QName 25 (codes "q")) ∷ Close ∷ [],
      0x04 ∷ 0x01 ∷ 0x78 ∷ 0x01 ∷ 0x71 ∷ 0x42 ∷ 0x01 ∷ 0xbd ∷ 0x19 ∷ 0x03 ∷ [],
      codes "x" ∷ codes "q" ∷ [],
    )
    ∷ (
      2048,
      [],
      Start [] (codes "x")
          ∷ Text (ListOf (TextOf (codes "q") ∷ QName 2 (codes "q") ∷ TextOf (codes "q") ∷ []))
          ∷ Close ∷ [],
      0x04 ∷ 0x01 ∷ 0x78 ∷ 0x01 ∷ 0x71 ∷ 0x42 ∷ 0x01 ∷ 0xa4 ∷ 0x98 ∷ 0x01 ∷ 0x71 ∷ 0xbc ∷ 0x02
          ∷ 0x03 ∷ 0xaa ∷ 0x03 ∷ 0xa7 ∷ [],
      codes "x" ∷ codes "q" ∷ [],
    )
    ∷ [])
unfolding writing_on_literals
qnames = refl

-- one without strings of a session
plain_qnames : AreInside (
    (text (QName 1 (codes "To")) ∷ [], 0xbd ∷ 0x01 ∷ 0x0c ∷ [])
    ∷ [])
unfolding writing_on_literals
plain_qnames = refl

-- an array, and one with a declaration and an attribute, whose name is placed before these
abbrev numbered : Item
numbered = Array (record {
  prefix = [];
  local = codes "a";
  attrs = [];
  kind = Int32;
  values = Number (pos 1) ∷ Number (pos 2) ∷ Number (negsuc 0) ∷ [];
})

abbrev attributed : Item
attributed = Array (record {
  prefix = [];
  local = codes "a";
  attrs = PartXmlns (codes "p") (codes "u")
      ∷ PartAttr [] (codes "k") (One (TextOf (codes "a"))) ∷ [];
  kind = Bool;
  values = Truth true ∷ Truth false ∷ [];
})

arrays : AreChosen ((
  2048,
  [],
  x (numbered ∷ []),
  0x04 ∷ 0x01 ∷ 0x78 ∷ 0x01 ∷ 0x61 ∷ 0x42 ∷ 0x01 ∷ 0x03 ∷ 0x42 ∷ 0x03 ∷ 0x01 ∷ 0x8d ∷ 0x03
      ∷ 0x01 ∷ 0x00 ∷ 0x00 ∷ 0x00 ∷ 0x02 ∷ 0x00 ∷ 0x00 ∷ 0x00 ∷ 0xff ∷ 0xff ∷ 0xff ∷ 0xff
      ∷ 0x01 ∷ [],
  codes "x" ∷ codes "a" ∷ [],
)
    ∷ (
      2048,
      [],
      x (attributed ∷ []),
      0x08 ∷ 0x01 ∷ 0x78 ∷ 0x01 ∷ 0x61 ∷ 0x01 ∷ 0x75 ∷ 0x01 ∷ 0x6b ∷ 0x42 ∷ 0x01 ∷ 0x03 ∷ 0x42
          ∷ 0x03 ∷ 0x0b ∷ 0x01 ∷ 0x70 ∷ 0x05 ∷ 0x06 ∷ 0x07 ∷ 0xaa ∷ 0x03 ∷ 0x01 ∷ 0xb5 ∷ 0x02
          ∷ 0x01 ∷ 0x00 ∷ 0x01 ∷ [],
      codes "x" ∷ codes "a" ∷ codes "u" ∷ codes "k" ∷ [],
    )
    ∷ [])
unfolding writing_on_literals
arrays = refl
