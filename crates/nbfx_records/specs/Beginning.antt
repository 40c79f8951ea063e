-- Which record some bytes begin.
use Rattle.std.specs.Prelude.{◌≡◌, ℕ, List, Some, None}
use Rattle.unit_streams.specs.Parts.{a_byte}
use Rattle.nbfx_records.specs.declared.{kinds.RecordKind.RecordKind, nodes.NodePlace.NodePlace}
use Rattle.nbfx_records.specs.{Cursor.IsWhole, Kinds.record_kind, Shapes.misplaced}

-- their first is the type byte of a record of this kind
pub record BeginsKind (bytes : List ℕ) (kind : RecordKind) : Type 0 where
  pub byte : ℕ
  pub first : IsWhole a_byte bytes 0 byte 1
  pub kind_is : record_kind byte ≡ Some kind

-- a record of this kind may stand at this place
abbrev pub MayStand : NodePlace → RecordKind → Type 0
MayStand place kind = misplaced place kind ≡ None
