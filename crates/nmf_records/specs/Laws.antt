-- What holds of records by their definitions alone, whatever bytes they are read from.
use Rattle.std.specs.Prelude.{◌≡◌, ℕ, ◌+◌, ◌<◌, ◌≤◌, Bool, true, false, ◌||◌, ◌⊎◌, ◌↔◌, List, []}
use Rattle.std.specs.Prelude.{◌∷◌, ◌++◌, length, take, drop, ◌==◌, IsUtf8}
use Rattle.unit_streams.specs.Front.{begun, whole, wrong}
use Rattle.multibyte_ints.specs.{Integer.Spells, Laws.FifthIsAbove}
use Rattle.nbfx_values.specs.declared.session.Mode.{Mode}
use Rattle.nmf_records.specs.declared.frame.Expect.{Expect, TheVariants.Chunk, TheVariants.Types}
use Rattle.nmf_records.specs.declared.frame.{Frame.Frame, FrameFault.FrameFault}
use Rattle.nmf_records.specs.declared.record_types.TheConstants.{EXTENSIBLE_ENCODING, FAULT, VIA}
use Rattle.nmf_records.specs.declared.record_types.TheConstants.{GREATEST, SIZED_ENVELOPE}
use Rattle.nmf_records.specs.declared.record_types.TheConstants.{UPGRADE_REQUEST, UPGRADE_RESPONSE}
use Rattle.nmf_records.specs.declared.script.Direction.{Direction, TheVariants.FromReceiver}
use Rattle.nmf_records.specs.RecordFronts.{allows, begins_text, frame_at, limit_for, longest_text}
use Rattle.nmf_records.specs.RecordFronts.{MayCome, text_limit, TextKind, TextLimits, too_long_as}
use Rattle.nmf_records.specs.Records.{IsRecord, Read}
use Rattle.nmf_records.specs.Script.{IsLoneAck, IsScript, LeadsToEnd}
use Rattle.nmf_records.specs.declared.frame.FrameFault.TheVariants as faults

-- the record at the front is the one that bytes there are, where it may come with its text
abbrev pub RecordsAreRead : Type 0
RecordsAreRead = (limits : TextLimits) (expect : Expect) (bytes : List ℕ) (read : Read) (n : ℕ)
    → (frame_at limits expect bytes ≡ whole read n)
    ↔ ((n ≤ length bytes) × IsRecord read (take n bytes)
    × MayCome expect read.frame
    × (length read.text ≤ text_limit limits read.frame))

-- no record goes on to a longer one that may come in its place, and none is two
abbrev pub NoRecordGoesOn : Type 0
NoRecordGoesOn = (expect : Expect) (one other : Read) (bytes more : List ℕ)
    → MayCome expect one.frame → MayCome expect other.frame
    → IsRecord one bytes → IsRecord other (bytes ++ more) → (more ≡ []) × (one ≡ other)

-- a record that has begun has at most five bytes more than the longest text, and what decides one
-- at most six more
abbrev pub BegunIsShort : Type 0
BegunIsShort = (limits : TextLimits) (expect : Expect) (bytes : List ℕ)
    → frame_at limits expect bytes ≡ begun
    → length bytes ≤ longest_text limits + 5

abbrev pub WholeIsShort : Type 0
WholeIsShort = (limits : TextLimits) (expect : Expect) (bytes : List ℕ) (read : Read) (n : ℕ)
    → frame_at limits expect bytes ≡ whole read n → n ≤ longest_text limits + 6

abbrev pub WrongIsShort : Type 0
WrongIsShort = (limits : TextLimits) (expect : Expect) (bytes : List ℕ) (fault : FrameFault) (n : ℕ)
    → frame_at limits expect bytes ≡ wrong fault n → n ≤ longest_text limits + 6

-- a type byte above the known ones comes first
abbrev pub BeginsUnknown : Expect → List ℕ → Type 0
BeginsUnknown (Types types) (kind ∷ rest) = GREATEST < kind
BeginsUnknown _ _ = ⊥

-- that is what makes a record unknown, and nothing else
abbrev pub UnknownByType : Type 0
UnknownByType = (limits : TextLimits) (expect : Expect) (bytes : List ℕ) (n : ℕ)
    → (frame_at limits expect bytes ≡ wrong faults.UnknownRecord n)
    ↔ ((n ≡ 1) × BeginsUnknown expect bytes)

-- the types of records that have no frame: Upgrade Request and Upgrade Response
abbrev pub has_no_frame : ℕ → Bool
has_no_frame kind = (kind == UPGRADE_REQUEST) || (kind == UPGRADE_RESPONSE)

-- this type byte comes first, which is a known one and may not come
abbrev pub BeginsUnexpected : Expect → List ℕ → ℕ → Type 0
BeginsUnexpected (Types types) (kind ∷ rest) t =
    (kind ≡ t) × (t ≤ GREATEST) × ((allows types t ≡ false) ⊎ (has_no_frame t ≡ true))
BeginsUnexpected _ _ t = ⊥

-- that is what makes a record unexpected, and nothing else
abbrev pub UnexpectedByType : Type 0
UnexpectedByType = (limits : TextLimits) (expect : Expect) (bytes : List ℕ) (t n : ℕ)
    → (frame_at limits expect bytes ≡ wrong (faults.Unexpected t) n)
    ↔ ((n ≡ 1) × BeginsUnexpected expect bytes t)

-- the types of records that have an integer, behind the type byte
abbrev pub has_integer : ℕ → Bool
has_integer kind =
    (kind == VIA) || ((kind == EXTENSIBLE_ENCODING) || ((kind == SIZED_ENVELOPE)
    || (kind == FAULT)))

-- an integer comes behind k bytes: none for a chunk's size, else the type byte
abbrev pub IntegerComes : Expect → List ℕ → ℕ → Type 0
IntegerComes Chunk bytes k = k ≡ 0
IntegerComes (Types types) (kind ∷ rest) k =
    (k ≡ 1) × (allows types kind ≡ true) × (has_integer kind ≡ true)
IntegerComes (Types types) [] k = ⊥

-- four bytes of it say that another follows, and the fifth is above 7: nothing else makes an
-- integer wrong
abbrev pub BadByInteger : Type 0
BadByInteger = (limits : TextLimits) (expect : Expect) (bytes : List ℕ) (n : ℕ)
    → (frame_at limits expect bytes ≡ wrong faults.BadInt n)
    ↔ ((k : ℕ) × IntegerComes expect bytes k × (n ≡ k + 5) × FifthIsAbove (drop k bytes))

-- the integer of such a text is above its limit, and ends at n bytes
pub record HasLongText (kind : TextKind) (limits : TextLimits) (expect : Expect) (bytes : List ℕ)
    (n : ℕ) : Type 0 where
  pub begins : begins_text kind expect bytes ≡ true
  pub type : ℕ
  pub size : ℕ
  pub spelling : List ℕ
  pub rest : List ℕ
  pub joined : bytes ≡ type ∷ (spelling ++ rest)
  pub spelled : Spells size spelling
  pub above : limit_for kind limits < size
  pub place : n ≡ 1 + length spelling

-- that is what makes a text too long, and nothing else
abbrev pub BadByLength : TextKind → Type 0
BadByLength kind = (limits : TextLimits) (expect : Expect) (bytes : List ℕ) (n : ℕ)
    → (frame_at limits expect bytes ≡ wrong (too_long_as kind) n)
    ↔ HasLongText kind limits expect bytes n

-- a text within its limit is no UTF-8, and ends at n bytes
pub record HasBadText (limits : TextLimits) (expect : Expect) (bytes : List ℕ) (n : ℕ)
    : Type 0 where
  pub kind : TextKind
  pub begins : begins_text kind expect bytes ≡ true
  pub type : ℕ
  pub spelling : List ℕ
  pub text : List ℕ
  pub rest : List ℕ
  pub joined : bytes ≡ type ∷ (spelling ++ (text ++ rest))
  pub spelled : Spells (length text) spelling
  pub within : length text ≤ limit_for kind limits
  pub bad : ¬ (IsUtf8 text)
  pub place : n ≡ 1 + length spelling + length text

-- that is what makes a text no UTF-8, and nothing else
abbrev pub BadByText : Type 0
BadByText = (limits : TextLimits) (expect : Expect) (bytes : List ℕ) (n : ℕ)
    → (frame_at limits expect bytes ≡ wrong faults.TextNotUtf8 n) ↔ HasBadText limits expect bytes n

-- the grammar of scripts and the way through what is due are one
abbrev pub ScriptsLeadToEnd : Type 0
ScriptsLeadToEnd = (direction : Direction) (mode : Mode) (script : List Frame)
    → IsScript direction mode script ↔ LeadsToEnd direction mode script

-- no script goes on to a longer one, but for the lone Ack
abbrev pub NoScriptGoesOn : Type 0
NoScriptGoesOn = (direction : Direction) (mode : Mode) (script more : List Frame)
    → IsScript direction mode script → IsScript direction mode (script ++ more)
    → (more ≡ []) ⊎ ((direction ≡ FromReceiver) × IsLoneAck mode script)
