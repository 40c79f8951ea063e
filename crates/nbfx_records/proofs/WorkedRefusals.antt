-- Bytes that are no record, or not yet, by computation alone.
use Rattle.std.proofs.Common.{◌≡◌, ℕ, true, false, List, [], ◌∷◌, map, refl}
use Rattle.unit_streams.specs.Front.{begun, wrong}
use Rattle.nbfx_records.specs.declared.nodes.{NodePlace.NodePlace, RecordFault.RecordFault}
use Rattle.nbfx_records.specs.declared.nodes.NodePlace.TheVariants.{AfterRoot, BeforeRoot, Within}
use Rattle.nbfx_records.specs.declared.nodes.RecordFault.TheVariants.{BadArray, BadInt, BadUtf8}
use Rattle.nbfx_records.specs.declared.nodes.RecordFault.TheVariants.{BadValue, OutOfPlace, TooDeep}
use Rattle.nbfx_records.specs.declared.nodes.RecordFault.TheVariants.{TrailingBytes, UnknownNode}
use Rattle.nbfx_records.{specs.RecordAtFront.node_at, proofs.OnLiterals.records_on_literals}

abbrev within : NodePlace
within = Within true true

-- where some bytes stand, and the fault that the first so many of them show
abbrev Row : Type 0
Row = NodePlace × List ℕ × RecordFault × ℕ

abbrev AllRefused : List Row → Type 0
AllRefused rows = map (λ (r : Row). node_at r.0 r.1) rows ≡ map (λ (r : Row). wrong r.2 r.3) rows

-- bytes that begin no record
no_records : AllRefused (
    (within, 0 ∷ 0 ∷ [], UnknownNode, 1) ∷
    (within, 0x78 ∷ 0 ∷ [], UnknownNode, 1) ∷
    (within, 0x7f ∷ 0 ∷ [], UnknownNode, 1) ∷
    (within, 0xa5 ∷ 0 ∷ [], UnknownNode, 1) ∷
    (within, 0xbe ∷ 0 ∷ [], UnknownNode, 1) ∷
    (within, 0xff ∷ 0 ∷ [], UnknownNode, 1) ∷
    (within, 0xa4 ∷ 0xa5 ∷ [], UnknownNode, 2) ∷
    (within, 4 ∷ 1 ∷ 0x6b ∷ 0x78 ∷ [], UnknownNode, 4) ∷
    (BeforeRoot, 0x78 ∷ [], UnknownNode, 1) ∷
    (within, 3 ∷ 0xa5 ∷ [], UnknownNode, 2) ∷
    (within, 3 ∷ 0x40 ∷ 1 ∷ 0x61 ∷ 0 ∷ [], UnknownNode, 5) ∷
    [])
unfolding records_on_literals
no_records = refl

-- values whose bytes are none of their kind
bad_values : AllRefused (
    (within, 0xb6 ∷ 3 ∷ 0x61 ∷ 0 ∷ 0x62 ∷ [], BadValue, 5) ∷
    (within, 0xb6 ∷ 2 ∷ 0 ∷ 0xd8 ∷ [], BadValue, 4) ∷
    (within, 0xb6 ∷ 4 ∷ 0 ∷ 0xdc ∷ 0 ∷ 0xd8 ∷ [], BadValue, 6) ∷ (
      within,
      0x94 ∷ 0 ∷ 0 ∷ 0x1d ∷ 0 ∷ 0 ∷ 0 ∷ 0 ∷ 0 ∷ 0 ∷ 0 ∷ 0 ∷ 0 ∷ 0 ∷ 0 ∷ 0 ∷ 0 ∷ [],
      BadValue,
      17,
    ) ∷ (
      within,
      0x94 ∷ 0 ∷ 0 ∷ 0 ∷ 1 ∷ 0 ∷ 0 ∷ 0 ∷ 0 ∷ 0 ∷ 0 ∷ 0 ∷ 0 ∷ 0 ∷ 0 ∷ 0 ∷ 0 ∷ [],
      BadValue,
      17,
    ) ∷
    (within, 0xbc ∷ 0x1a ∷ 2 ∷ [], BadValue, 3) ∷
    (within, 0xb4 ∷ 2 ∷ [], BadValue, 2) ∷
    (within, 0xb7 ∷ 3 ∷ 0x61 ∷ 0 ∷ 0x62 ∷ [], BadValue, 5) ∷
    (within, 0xb7 ∷ 2 ∷ 0 ∷ 0xd8 ∷ [], BadValue, 4) ∷ (
      within,
      0x95 ∷ 0 ∷ 0 ∷ 0x1d ∷ 0 ∷ 0 ∷ 0 ∷ 0 ∷ 0 ∷ 0 ∷ 0 ∷ 0 ∷ 0 ∷ 0 ∷ 0 ∷ 0 ∷ 0 ∷ [],
      BadValue,
      17,
    ) ∷ (
      within,
      0x95 ∷ 0 ∷ 0 ∷ 0 ∷ 1 ∷ 0 ∷ 0 ∷ 0 ∷ 0 ∷ 0 ∷ 0 ∷ 0 ∷ 0 ∷ 0 ∷ 0 ∷ 0 ∷ 0 ∷ [],
      BadValue,
      17,
    ) ∷
    (within, 0xbd ∷ 0x1a ∷ 2 ∷ [], BadValue, 3) ∷
    (within, 0xb5 ∷ 2 ∷ [], BadValue, 2) ∷
    (within, 3 ∷ 0x40 ∷ 1 ∷ 0x61 ∷ 1 ∷ 0xb5 ∷ 2 ∷ 1 ∷ 2 ∷ [], BadValue, 9) ∷
    [])
unfolding records_on_literals
bad_values = refl

-- texts that aren't UTF-8, which go before values
bad_texts : AllRefused (
    (within, 0x99 ∷ 1 ∷ 0xff ∷ [], BadUtf8, 3) ∷
    (within, 0x98 ∷ 1 ∷ 0xff ∷ [], BadUtf8, 3) ∷
    (within, 2 ∷ 2 ∷ 0xc3 ∷ 0x28 ∷ [], BadUtf8, 4) ∷
    (within, 0x40 ∷ 1 ∷ 0xff ∷ [], BadUtf8, 3) ∷
    (within, 0x41 ∷ 1 ∷ 0xff ∷ 1 ∷ 0x78 ∷ [], BadUtf8, 5) ∷
    (within, 8 ∷ 1 ∷ 0xff ∷ [], BadUtf8, 3) ∷
    (within, 0xa4 ∷ 0xb4 ∷ 2 ∷ 0x98 ∷ 1 ∷ 0xff ∷ 0xa6 ∷ [], BadUtf8, 7) ∷
    (within, 3 ∷ 0x40 ∷ 1 ∷ 0xff ∷ 1 ∷ 0xb5 ∷ 2 ∷ 2 ∷ 1 ∷ [], BadUtf8, 9) ∷
    [])
unfolding records_on_literals
bad_texts = refl

-- integers whose fifth byte is above 7, and negative lengths
bad_integers : AllRefused (
    (within, 2 ∷ 0x80 ∷ 0x80 ∷ 0x80 ∷ 0x80 ∷ 8 ∷ [], BadInt, 6) ∷
    (within, 0xaa ∷ 0xff ∷ 0xff ∷ 0xff ∷ 0xff ∷ 8 ∷ [], BadInt, 6) ∷
    (within, 0x9c ∷ 0 ∷ 0 ∷ 0 ∷ 0x80 ∷ [], BadInt, 5) ∷
    (within, 0xa2 ∷ 0xff ∷ 0xff ∷ 0xff ∷ 0xff ∷ [], BadInt, 5) ∷
    (within, 0xba ∷ 0 ∷ 0 ∷ 0 ∷ 0x80 ∷ [], BadInt, 5) ∷
    (within, 3 ∷ 0x40 ∷ 1 ∷ 0x61 ∷ 1 ∷ 0xb5 ∷ 0x80 ∷ 0x80 ∷ 0x80 ∷ 0x80 ∷ 0x10 ∷ [], BadInt, 11) ∷
    [])
unfolding records_on_literals
bad_integers = refl

-- records that may not stand where they do
misplaced : AllRefused (
    (within, 0xa6 ∷ 0 ∷ [], OutOfPlace, 1) ∷
    (within, 0xa7 ∷ [], OutOfPlace, 1) ∷
    (within, 0xa4 ∷ 0x82 ∷ 0xa4 ∷ [], OutOfPlace, 3) ∷
    (within, 0xa4 ∷ 0x83 ∷ [], OutOfPlace, 2) ∷
    (within, 0xa4 ∷ 0x40 ∷ [], OutOfPlace, 2) ∷
    (Within false true, 4 ∷ [], OutOfPlace, 1) ∷
    (Within false true, 8 ∷ [], OutOfPlace, 1) ∷
    (within, 4 ∷ 1 ∷ 0x6b ∷ 0x99 ∷ [], OutOfPlace, 4) ∷
    (within, 4 ∷ 1 ∷ 0x6b ∷ 0x40 ∷ [], OutOfPlace, 4) ∷
    (within, 4 ∷ 1 ∷ 0x6b ∷ 0xa4 ∷ 0x82 ∷ 0xa7 ∷ [], OutOfPlace, 6) ∷
    (within, 4 ∷ 1 ∷ 0x6b ∷ 0xa6 ∷ [], OutOfPlace, 4) ∷
    (BeforeRoot, 0x98 ∷ [], OutOfPlace, 1) ∷
    (BeforeRoot, 2 ∷ [], OutOfPlace, 1) ∷
    (BeforeRoot, 3 ∷ [], OutOfPlace, 1) ∷
    (BeforeRoot, 1 ∷ [], OutOfPlace, 1) ∷
    (within, 3 ∷ 0x40 ∷ 1 ∷ 0x61 ∷ 4 ∷ 1 ∷ 0x6b ∷ 0x83 ∷ [], OutOfPlace, 8) ∷
    (within, 3 ∷ 0x40 ∷ 1 ∷ 0x61 ∷ 4 ∷ 1 ∷ 0x6b ∷ 1 ∷ [], OutOfPlace, 8) ∷
    [])
unfolding records_on_literals
misplaced = refl

-- bytes after the root
trailing : AllRefused (
    (AfterRoot, 0x40 ∷ [], TrailingBytes, 1) ∷
    (AfterRoot, 0 ∷ [], TrailingBytes, 1) ∷
    [])
unfolding records_on_literals
trailing = refl

-- elements that may not be opened
too_deep : AllRefused (
    (Within true false, 0x40 ∷ [], TooDeep, 1) ∷
    (Within false false, 3 ∷ [], TooDeep, 1) ∷
    [])
unfolding records_on_literals
too_deep = refl

-- arrays that aren't made of an element, its attributes, a listed type and values
bad_arrays : AllRefused (
    (within, 3 ∷ 0x40 ∷ 1 ∷ 0x61 ∷ 1 ∷ 0x8d ∷ 0 ∷ [], BadArray, 7) ∷
    (within, 3 ∷ 0x40 ∷ 1 ∷ 0x61 ∷ 1 ∷ 0x8c ∷ [], BadArray, 6) ∷
    (within, 3 ∷ 0x40 ∷ 1 ∷ 0x61 ∷ 1 ∷ 0x89 ∷ [], BadArray, 6) ∷
    (within, 3 ∷ 0x40 ∷ 1 ∷ 0x61 ∷ 1 ∷ 0xa5 ∷ [], BadArray, 6) ∷
    (within, 3 ∷ 0x98 ∷ [], BadArray, 2) ∷
    (within, 3 ∷ 3 ∷ [], BadArray, 2) ∷
    (within, 3 ∷ 0x40 ∷ 1 ∷ 0x61 ∷ 0x98 ∷ [], BadArray, 5) ∷
    [])
unfolding records_on_literals
bad_arrays = refl

-- what has begun, and isn't judged yet
abbrev AllBegun : List (List ℕ) → Type 0
AllBegun rows = map (node_at within) rows ≡ map (λ (bytes : List ℕ). begun) rows

only_begun : AllBegun (
    (0x40 ∷ []) ∷
    (0x98 ∷ 2 ∷ 0x68 ∷ []) ∷
    (5 ∷ 1 ∷ 0xff ∷ 1 ∷ 0x6b ∷ []) ∷
    (3 ∷ 0x40 ∷ 1 ∷ 0x61 ∷ 1 ∷ 0xb5 ∷ 2 ∷ 2 ∷ []) ∷
    (0xa4 ∷ 0x82 ∷ []) ∷
    (2 ∷ 0x80 ∷ 0x80 ∷ 0x80 ∷ 0x80 ∷ []) ∷
    (0x9c ∷ 0 ∷ 0 ∷ 0 ∷ []) ∷
    [])
unfolding records_on_literals
only_begun = refl
