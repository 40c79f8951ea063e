-- How far a record that isn't whole was seen to be whole: positions alone.
use Rattle.std.specs.Prelude.{◌≡◌, ℕ, ◌<◌, ◌≤◌, Bool, true, false, List, [], ◌∷◌, length, Some}
use Rattle.std.specs.Prelude.{None, Option, ⊤}
use Rattle.unit_streams.specs.Front.{begun, whole}
use Rattle.unit_streams.specs.Parts.{a_byte, more, Reader, Turn}
use Rattle.nbfx_records.specs.declared.kinds.{NameForm.NameForm, PrefixForm.PrefixForm}
use Rattle.nbfx_records.specs.declared.kinds.{RecordKind.RecordKind, TextKind.TextKind}
use Rattle.nbfx_records.specs.declared.nodes.{NameRef.NameRef, RecordFault.RecordFault}
use Rattle.nbfx_records.specs.{declared.resume.Resume.Resume, Kinds.record_kind}
use Rattle.nbfx_records.specs.Cursor.{IsWhole, read_from}
use Rattle.nbfx_records.specs.Shapes.{array_element, array_parts, array_turn, list_turn, name_at}
use Rattle.nbfx_records.specs.Shapes.{NamedShape, prefix_at}
use Rattle.nbfx_records.specs.declared.kinds.RecordKind.TheVariants as records
use Rattle.nbfx_records.specs.declared.kinds.TextKind.TheVariants as texts

-- whole things one behind the other, from an offset to another
abbrev pub AreMore : {A B : Type 0} → Reader (Turn A B) RecordFault → List ℕ → ℕ → List A → ℕ
    → Type 0
AreMore turn bytes from [] to = from ≡ to
AreMore turn bytes from (a ∷ items) to =
    (mid : ℕ) × (from < mid) × IsWhole turn bytes from (more a) mid
    × AreMore turn bytes mid items to

-- some
pub record Passes {A B : Type 0} (turn : Reader (Turn A B) RecordFault) (bytes : List ℕ)
    (from to : ℕ) : Type 0 where
  pub items : List A
  pub are : AreMore turn bytes from items to
  pub within : to ≤ length bytes

-- from the beginning of a list there are whole values up to where it goes on, and from the end of
-- an array's element whole attributes
unfoldable pub Fits : Resume → List ℕ → Type 0
Fits resume bytes =
    Passes (list_turn true) bytes resume.list_from resume.list_at
    × Passes array_turn bytes resume.parts_from resume.parts_at

-- What is kept where the bytes end within a list that begins at an offset: it goes on where a
-- value, or its end, isn't whole.
pub record KeepsList (may_close : Bool) (from : ℕ) (resume : Resume) (bytes : List ℕ) : Type 0 where
  pub begins : resume.list_from ≡ from
  pub goes_on : read_from resume.list_at (list_turn may_close) bytes ≡ begun

-- in an attribute too, by its value's kind, by what the value's type byte begins, by the value,
abbrev pub KeepsText : TextKind → ℕ → Resume → List ℕ → Type 0
KeepsText texts.StartList at resume bytes = KeepsList false at resume bytes
KeepsText _ at resume bytes = ⊤

abbrev pub KeepsTextOf : Option RecordKind → ℕ → Resume → List ℕ → Type 0
KeepsTextOf (Some (records.Text kind ends)) at resume bytes = KeepsText kind at resume bytes
KeepsTextOf _ at resume bytes = ⊤

abbrev pub KeepsValue : ℕ → Resume → List ℕ → Type 0
KeepsValue at resume bytes =
    (byte to : ℕ) → read_from at a_byte bytes ≡ whole byte to
    → KeepsTextOf (record_kind byte) to resume bytes

-- which is behind the attribute's prefix and name.
abbrev pub KeepsAttribute : PrefixForm → NameForm → ℕ → Resume → List ℕ → Type 0
KeepsAttribute prefix_form name_form at resume bytes =
    (prefix : List ℕ) (mid : ℕ) (name : NameRef) (to : ℕ)
    → read_from at (prefix_at prefix_form) bytes ≡ whole prefix mid
    → read_from mid (name_at name_form) bytes ≡ whole name to → KeepsValue to resume bytes

-- In the same way where they end within the attributes of an array that begin at an offset,
pub record KeepsParts (from : ℕ) (resume : Resume) (bytes : List ℕ) : Type 0 where
  pub begins : resume.parts_from ≡ from
  pub goes_on : read_from resume.parts_at array_turn bytes ≡ begun

-- which is behind its element
abbrev pub KeepsArray : ℕ → Resume → List ℕ → Type 0
KeepsArray at resume bytes =
    (element : NamedShape) (from : ℕ) → read_from at array_element bytes ≡ whole element from
    → read_from from array_parts bytes ≡ begun → KeepsParts from resume bytes

-- behind the type byte of a record
abbrev pub KeepsOf : RecordKind → ℕ → Resume → List ℕ → Type 0
KeepsOf (records.Text texts.StartList ends) at resume bytes = KeepsList true at resume bytes
KeepsOf (records.Attribute prefix name) at resume bytes = KeepsAttribute prefix name at resume bytes
KeepsOf records.Array at resume bytes = KeepsArray at resume bytes
KeepsOf _ at resume bytes = ⊤

abbrev pub KeepsAny : Option RecordKind → ℕ → Resume → List ℕ → Type 0
KeepsAny None at resume bytes = ⊤
KeepsAny (Some kind) at resume bytes = KeepsOf kind at resume bytes

-- of a record that isn't whole
abbrev pub KeepsWhole : Resume → List ℕ → Type 0
KeepsWhole resume bytes =
    (byte at : ℕ) → read_from 0 a_byte bytes ≡ whole byte at
    → KeepsAny (record_kind byte) at resume bytes
