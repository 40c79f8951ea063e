-- Each other record, by computation alone: a node, and the bytes that are read as it and written of
-- it.
use Rattle.std.proofs.Common.{ℕ, true, false, List, [], ◌∷◌, pos, negsuc, refl}
use Rattle.nbfx_values.specs.declared.{content.ArrayKind.ArrayKind, scalars.Scalar.Scalar}
use Rattle.nbfx_values.specs.declared.scalars.Scalar.TheVariants.{DateTime, Decimal, Double, Float}
use Rattle.nbfx_values.specs.declared.scalars.Scalar.TheVariants.{Number, TimeSpan, Truth, Uuid}
use Rattle.nbfx_records.specs.declared.nodes.NameRef.TheVariants.{Id, Inline}
use Rattle.nbfx_records.specs.declared.nodes.Node.{Node, TheVariants.EndElement, TheVariants.Xmlns}
use Rattle.nbfx_records.specs.declared.nodes.Node.TheVariants.{Array, Attribute, Comment, Element}
use Rattle.nbfx_records.specs.declared.nodes.{RawScalar.TheVariants.Known, RawValue.RawValue}
use Rattle.nbfx_records.specs.declared.nodes.RawValue.TheVariants.{List as ListOf, One}
use Rattle.nbfx_records.proofs.OnLiterals.{AllRead, AllWritten, records_on_literals}
use Rattle.nbfx_values.specs.declared.content.ArrayKind.TheVariants as arrays
use Rattle.nbfx_records.specs.declared.nodes.AttrNode.TheVariants as attribute_nodes

abbrev one : RawValue
one = One (Known (Number (pos 1)))

-- an element a without attributes, once for each value
abbrev array : ArrayKind → List Scalar → Node
array kind values =
    Array (record {
      prefix = [];
      name = Inline (0x61 ∷ []);
      attrs = [];
      kind = kind;
      values = values;
    })

-- one with a declaration and an attribute
abbrev array_with_attributes : Node
array_with_attributes =
    Array (record {
      prefix = [];
      name = Id 2;
      attrs =
          attribute_nodes.Xmlns (0x70 ∷ []) (Id 4) ∷ attribute_nodes.Attribute [] (Id 6) one ∷ [];
      kind = arrays.Bool;
      values = Truth true ∷ [];
    })

abbrev identifier : List ℕ
identifier = 0x33 ∷ 0x22 ∷ 0x11 ∷ 0 ∷ 0x55 ∷ 0x44 ∷ 0x77 ∷ 0x66
    ∷ 0x88 ∷ 0x99 ∷ 0xaa ∷ 0xbb ∷ 0xcc ∷ 0xdd ∷ 0xee ∷ 0xff ∷ []

-- ends and comments
ends_and_comments : AllWritten (
    (EndElement, 1 ∷ []) ∷
    (Comment (0x68 ∷ 0x69 ∷ []), 2 ∷ 2 ∷ 0x68 ∷ 0x69 ∷ []) ∷
    (Comment [], 2 ∷ 0 ∷ []) ∷
    [])
unfolding records_on_literals
ends_and_comments = (refl, refl)

-- attributes, by each form of a prefix and a name
attributes : AllWritten (
    (Attribute [] (Inline (0x6b ∷ [])) one, 4 ∷ 1 ∷ 0x6b ∷ 0x82 ∷ []) ∷ (
      Attribute (0x70 ∷ 0x72 ∷ []) (Inline (0x6b ∷ [])) one,
      5 ∷ 2 ∷ 0x70 ∷ 0x72 ∷ 1 ∷ 0x6b ∷ 0x82 ∷ [],
    ) ∷
    (Attribute [] (Id 3) one, 6 ∷ 3 ∷ 0x82 ∷ []) ∷
    (Attribute (0x70 ∷ 0x72 ∷ []) (Id 3) one, 7 ∷ 2 ∷ 0x70 ∷ 0x72 ∷ 3 ∷ 0x82 ∷ []) ∷
    (Attribute (0x61 ∷ []) (Id 3) one, 0xc ∷ 3 ∷ 0x82 ∷ []) ∷
    (Attribute (0x7a ∷ []) (Id 3) one, 0x25 ∷ 3 ∷ 0x82 ∷ []) ∷
    (Attribute (0x61 ∷ []) (Inline (0x6b ∷ [])) one, 0x26 ∷ 1 ∷ 0x6b ∷ 0x82 ∷ []) ∷
    (Attribute (0x7a ∷ []) (Inline (0x6b ∷ [])) one, 0x3f ∷ 1 ∷ 0x6b ∷ 0x82 ∷ []) ∷ (
      Attribute [] (Inline (0x6b ∷ [])) (ListOf (Known (Number (pos 1)) ∷ [])),
      4 ∷ 1 ∷ 0x6b ∷ 0xa4 ∷ 0x82 ∷ 0xa6 ∷ [],
    ) ∷
    [])
unfolding records_on_literals
attributes = (refl, refl)

-- declarations
declarations : AllWritten (
    (Xmlns [] (Inline (0x75 ∷ [])), 8 ∷ 1 ∷ 0x75 ∷ []) ∷
    (Xmlns (0x70 ∷ []) (Inline (0x75 ∷ [])), 9 ∷ 1 ∷ 0x70 ∷ 1 ∷ 0x75 ∷ []) ∷
    (Xmlns [] (Id 4), 0xa ∷ 4 ∷ []) ∷
    (Xmlns (0x73 ∷ []) (Id 4), 0xb ∷ 1 ∷ 0x73 ∷ 4 ∷ []) ∷
    (Xmlns (0x61 ∷ []) (Id 4), 0xb ∷ 1 ∷ 0x61 ∷ 4 ∷ []) ∷
    [])
unfolding records_on_literals
declarations = (refl, refl)

-- elements
elements : AllWritten (
    (Element [] (Inline (0x78 ∷ [])), 0x40 ∷ 1 ∷ 0x78 ∷ []) ∷
    (Element (0x70 ∷ 0x72 ∷ []) (Inline (0x78 ∷ [])), 0x41 ∷ 2 ∷ 0x70 ∷ 0x72 ∷ 1 ∷ 0x78 ∷ []) ∷
    (Element [] (Id 1), 0x42 ∷ 1 ∷ []) ∷
    (Element (0x70 ∷ 0x72 ∷ []) (Id 1), 0x43 ∷ 2 ∷ 0x70 ∷ 0x72 ∷ 1 ∷ []) ∷
    (Element (0x61 ∷ []) (Id 2), 0x44 ∷ 2 ∷ []) ∷
    (Element (0x7a ∷ []) (Id 2), 0x5d ∷ 2 ∷ []) ∷
    (Element (0x61 ∷ []) (Inline (0x78 ∷ [])), 0x5e ∷ 1 ∷ 0x78 ∷ []) ∷
    (Element (0x7a ∷ []) (Inline (0x78 ∷ [])), 0x77 ∷ 1 ∷ 0x78 ∷ []) ∷
    (Element (0x41 ∷ []) (Id 2), 0x43 ∷ 1 ∷ 0x41 ∷ 2 ∷ []) ∷
    [])
unfolding records_on_literals
elements = (refl, refl)

-- prefixes that a string spells, though a type byte could
other_spellings : AllRead (
    (Element (0x61 ∷ []) (Id 2), 0x43 ∷ 1 ∷ 0x61 ∷ 2 ∷ []) ∷
    (Element [] (Id 2), 0x43 ∷ 0 ∷ 2 ∷ []) ∷
    [])
unfolding records_on_literals
other_spellings = refl

-- arrays
arrays_of_each_kind : AllWritten ((
  array arrays.Bool (Truth true ∷ Truth false ∷ []),
  3 ∷ 0x40 ∷ 1 ∷ 0x61 ∷ 1 ∷ 0xb5 ∷ 2 ∷ 1 ∷ 0 ∷ [],
) ∷ (
  array arrays.Int16 (Number (negsuc 1) ∷ []),
  3 ∷ 0x40 ∷ 1 ∷ 0x61 ∷ 1 ∷ 0x8b ∷ 1 ∷ 0xfe ∷ 0xff ∷ [],
) ∷ (
  array arrays.Int32 (Number (pos 1) ∷ Number (pos 2) ∷ Number (negsuc 0) ∷ []),
  3 ∷ 0x40 ∷ 1 ∷ 0x61 ∷ 1 ∷ 0x8d ∷ 3 ∷ 1 ∷ 0 ∷ 0 ∷ 0 ∷ 2 ∷ 0 ∷ 0 ∷ 0 ∷ 0xff ∷ 0xff ∷ 0xff ∷
      0xff ∷ [],
) ∷ (
  array arrays.Int64 (Number (pos 0) ∷ []),
  3 ∷ 0x40 ∷ 1 ∷ 0x61 ∷ 1 ∷ 0x8f ∷ 1 ∷ 0 ∷ 0 ∷ 0 ∷ 0 ∷ 0 ∷ 0 ∷ 0 ∷ 0 ∷ [],
) ∷
    (array arrays.Float (Float 1 ∷ []), 3 ∷ 0x40 ∷ 1 ∷ 0x61 ∷ 1 ∷ 0x91 ∷ 1 ∷ 1 ∷ 0 ∷ 0 ∷ 0 ∷ []) ∷ (
      array arrays.Double (Double 1 ∷ []),
      3 ∷ 0x40 ∷ 1 ∷ 0x61 ∷ 1 ∷ 0x93 ∷ 1 ∷ 1 ∷ 0 ∷ 0 ∷ 0 ∷ 0 ∷ 0 ∷ 0 ∷ 0 ∷ [],
    ) ∷ (
      array arrays.Decimal (Decimal (record { scale = 2; negative = false; magnitude = 150 }) ∷ []),
      3 ∷ 0x40 ∷ 1 ∷ 0x61 ∷ 1 ∷ 0x95 ∷ 1 ∷ 0 ∷ 0 ∷ 2 ∷ 0 ∷ 0 ∷ 0 ∷ 0 ∷ 0 ∷ 0x96 ∷ 0 ∷ 0 ∷ 0 ∷ 0 ∷
          0 ∷ 0 ∷ 0 ∷ [],
    ) ∷ (
      array arrays.DateTime (DateTime 9 ∷ []),
      3 ∷ 0x40 ∷ 1 ∷ 0x61 ∷ 1 ∷ 0x97 ∷ 1 ∷ 9 ∷ 0 ∷ 0 ∷ 0 ∷ 0 ∷ 0 ∷ 0 ∷ 0 ∷ [],
    ) ∷ (
      array arrays.TimeSpan (TimeSpan (negsuc 0) ∷ []),
      3 ∷ 0x40 ∷ 1 ∷ 0x61 ∷ 1 ∷ 0xaf ∷ 1 ∷ 0xff ∷ 0xff ∷ 0xff ∷ 0xff ∷ 0xff ∷ 0xff ∷ 0xff ∷ 0xff ∷
          [],
    ) ∷
    (array arrays.Uuid (Uuid identifier ∷ []), 3 ∷ 0x40 ∷ 1 ∷ 0x61 ∷ 1 ∷ 0xb1 ∷ 1 ∷ identifier) ∷ (
      array_with_attributes,
      3 ∷ 0x42 ∷ 2 ∷ 0xb ∷ 1 ∷ 0x70 ∷ 4 ∷ 6 ∷ 6 ∷ 0x82 ∷ 1 ∷ 0xb5 ∷ 1 ∷ 1 ∷ [],
    ) ∷
    [])
unfolding records_on_literals
arrays_of_each_kind = (refl, refl)
