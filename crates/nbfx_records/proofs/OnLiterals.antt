-- What a proof unfolds to compute the definitions on literal bytes.
use Rattle.std.proofs.Common.{◌≡◌, ℕ, true, List, map, length}
use Rattle.std.specs.{Prelude.⊤, Char.encode_utf8, Char.Utf16.utf16_chars, Str.chars, Str.is_utf8}
use Rattle.unit_streams.specs.{Front.whole, Parts.many, Parts.repeated, Parts.◌>>=◌}
use Rattle.multibyte_ints.specs.Integer.{int_at, int_ending_at, shortest, shortest_within, value_of}
use Rattle.multibyte_ints.specs.Text.{string_bytes_of}
use Rattle.nbfx_records.specs.declared.nodes.{Node.Node, NodePlace.TheVariants.Within}
use Rattle.nbfx_records.specs.{Chosen.chosen_bytes, Kinds.record_kind, RecordAtFront.node_at}
use Rattle.nbfx_records.specs.Contents.{contents, scalar_of}
use Rattle.nbfx_records.specs.Shapes.{array_at, record_at, shape_at}

unfoldable pub records_on_literals : ⊤
unfolding encode_utf8 utf16_chars chars is_utf8 ◌>>=◌ many repeated int_at int_ending_at value_of
    shortest shortest_within string_bytes_of record_kind array_at record_at shape_at scalar_of
    contents node_at
records_on_literals = tt

-- a node, and the bytes of its record
abbrev pub Row : Type 0
Row = Node × List ℕ

-- within the root the bytes are read as the node, and all of them
abbrev pub AllRead : List Row → Type 0
AllRead rows = map (λ (r : Row). node_at (Within true true) r.1) rows
    ≡ map (λ (r : Row). whole r.0 (length r.1)) rows

-- and are written of it
abbrev pub AllWritten : List Row → Type 0
AllWritten rows = AllRead rows
    × (map (λ (r : Row). chosen_bytes r.0) rows ≡ map (λ (r : Row). r.1) rows)
