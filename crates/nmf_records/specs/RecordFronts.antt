-- What the front of some bytes is, where a record or a chunk's size is to come.
use Rattle.std.specs.Prelude.{◌≡◌, ℕ, Bool, true, false, ◌&&◌, ◌||◌, List, [], ◌∷◌, is_none}
use Rattle.std.specs.Prelude.{if◌then◌else◌, max, nat_lt, ◌==◌, Some, None, Option, ⊤}
use Rattle.{std.specs.Int.bit_at, multibyte_ints.specs.Integer.int_at}
use Rattle.unit_streams.specs.Front.{begun, Front, whole, wrong}
use Rattle.unit_streams.specs.Parts.{further, seen}
use Rattle.multibyte_ints.specs.Text.{bad_int, bad_utf8, string_at, StringFault, too_long}
use Rattle.nmf_records.specs.declared.frame.{Expect.Expect, Frame.Frame, FrameFault.FrameFault}
use Rattle.nmf_records.specs.declared.record_types.TheConstants.{END, EXTENSIBLE_ENCODING, FAULT}
use Rattle.nmf_records.specs.declared.record_types.TheConstants.{GREATEST, KNOWN_ENCODING, MODE}
use Rattle.nmf_records.specs.declared.record_types.TheConstants.{PREAMBLE_ACK}
use Rattle.nmf_records.specs.declared.record_types.TheConstants.{PREAMBLE_END, SIZED_ENVELOPE}
use Rattle.nmf_records.specs.declared.record_types.TheConstants.{UNSIZED_ENVELOPE, VERSION, VIA}
use Rattle.nmf_records.specs.declared.reader.TheConstants.{CONTENT_TYPE_LIMIT}
use Rattle.nmf_records.specs.Records.{Read, type_of}
use Rattle.nmf_records.specs.declared.frame.Frame.TheVariants as frames
use Rattle.nmf_records.specs.declared.frame.Expect.TheVariants as expects
use Rattle.nmf_records.specs.declared.frame.FrameFault.TheVariants as faults

-- a record with this text
abbrev pub with_text : Frame → List ℕ → Read
with_text frame text = record { frame = frame; text = text }

-- a record without one
abbrev pub bare : Frame → Read
bare frame = with_text frame []

-- the texts that records have: that of a Via or a Fault, and an Extensible Encoding's content type
pub data TextKind : Type 0 where
  via_or_fault : TextKind
  content_type : TextKind

-- how long each may be
pub record TextLimits : Type 0 where
  pub text : ℕ
  pub content_type : ℕ

abbrev pub limit_for : TextKind → TextLimits → ℕ
limit_for via_or_fault limits = limits.text
limit_for content_type limits = limits.content_type

-- the limits of a reader that takes texts of Vias and Faults of so many bytes
abbrev pub limits_within : ℕ → TextLimits
limits_within via = record { text = via; content_type = CONTENT_TYPE_LIMIT }

-- how long any text may be
abbrev pub longest_text : TextLimits → ℕ
longest_text limits = max limits.text limits.content_type

-- which text a record has, if it has one
abbrev pub text_kind : Frame → TextKind
text_kind frames.ExtensibleEncoding = content_type
text_kind frame = via_or_fault

-- how long the record's text may be
abbrev pub text_limit : TextLimits → Frame → ℕ
text_limit limits frame = limit_for (text_kind frame) limits

-- a text of this kind is too long
abbrev pub too_long_as : TextKind → FrameFault
too_long_as via_or_fault = faults.TextTooLong
too_long_as content_type = faults.TypeTooLong

-- a fault of a string, as one of the record that has this text
abbrev pub fault_of : TextKind → StringFault → FrameFault
fault_of kind bad_int = faults.BadInt
fault_of kind too_long = too_long_as kind
fault_of kind bad_utf8 = faults.TextNotUtf8

-- an integer behind so many bytes, as a size
abbrev pub as_size : ℕ → (ℕ → Frame) → Front ℕ ⊤ → Front Read FrameFault
as_size n frame int = further n (seen (λ size. bare (frame size)) (λ _. faults.BadInt) int)

-- a size, behind a type byte or as a chunk has it
abbrev pub size_at : ℕ → (ℕ → Frame) → List ℕ → Front Read FrameFault
size_at n frame bytes = as_size n frame (int_at bytes)

-- a string behind a type byte, as a text
abbrev pub as_text : Frame → Front (List ℕ) StringFault → Front Read FrameFault
as_text frame string = further 1 (seen (with_text frame) (fault_of (text_kind frame)) string)

-- a text behind a type byte
abbrev pub text_frame_at : TextLimits → Frame → List ℕ → Front Read FrameFault
text_frame_at limits frame bytes = as_text frame (string_at (text_limit limits frame) bytes)

-- two bytes behind a type byte
abbrev pub version_at : List ℕ → Front Read FrameFault
version_at [] = begun
version_at (major ∷ []) = begun
version_at (major ∷ minor ∷ rest) = whole (bare (frames.Version major minor)) 3

-- one byte behind a type byte
abbrev pub byte_at : (ℕ → Frame) → List ℕ → Front Read FrameFault
byte_at frame [] = begun
byte_at frame (byte ∷ rest) = whole (bare (frame byte)) 2

-- a record of its type byte alone
abbrev pub lone : Frame → Front Read FrameFault
lone frame = whole (bare frame) 1

-- the record of this type
abbrev pub typed_at : TextLimits → ℕ → List ℕ → Front Read FrameFault
typed_at limits kind bytes =
    if kind == VERSION then version_at bytes
    else (if kind == MODE then byte_at frames.Mode bytes
    else (if kind == VIA then text_frame_at limits frames.Via bytes
    else (if kind == KNOWN_ENCODING then byte_at frames.KnownEncoding bytes
    else (if kind == EXTENSIBLE_ENCODING then text_frame_at limits frames.ExtensibleEncoding bytes
    else (if kind == UNSIZED_ENVELOPE then lone frames.UnsizedEnvelope
    else (if kind == SIZED_ENVELOPE then size_at 1 frames.SizedEnvelope bytes
    else (if kind == END then lone frames.End
    else (if kind == FAULT then text_frame_at limits frames.Fault bytes
    else (if kind == PREAMBLE_ACK then lone frames.PreambleAck
    else (if kind == PREAMBLE_END then lone frames.PreambleEnd
    else wrong (faults.Unexpected kind) 1))))))))))

-- a type byte that may come
abbrev pub allows : ℕ → ℕ → Bool
allows types kind = bit_at types kind == 1

-- the type of a record is one that may come
abbrev pub allows_type : ℕ → Option ℕ → Bool
allows_type types None = false
allows_type types (Some kind) = allows types kind

-- a record of a type that may come, or the size of a chunk where that is what comes
abbrev pub comes : Expect → Frame → Bool
comes (expects.Types types) frame = allows_type types (type_of frame)
comes expects.Chunk frame = is_none (type_of frame)

abbrev pub MayCome : Expect → Frame → Type 0
MayCome expect frame = comes expect frame ≡ true

-- a record, where the types with their bits set may come
abbrev pub allowed_at : TextLimits → ℕ → List ℕ → Front Read FrameFault
allowed_at limits types [] = begun
allowed_at limits types (kind ∷ bytes) =
    if nat_lt GREATEST kind then wrong faults.UnknownRecord 1
    else (if allows types kind then typed_at limits kind bytes else wrong
    (faults.Unexpected kind) 1)

-- the front of the bytes, where this may come and texts are at most so long
abbrev pub frame_at : TextLimits → Expect → List ℕ → Front Read FrameFault
frame_at limits (expects.Types types) bytes = allowed_at limits types bytes
frame_at limits expects.Chunk bytes = size_at 0 frames.Chunk bytes

-- records of this type have such a text
abbrev pub has_text_of : TextKind → ℕ → Bool
has_text_of via_or_fault type = (type == VIA) || (type == FAULT)
has_text_of content_type type = type == EXTENSIBLE_ENCODING

-- a record with such a text has begun
abbrev pub begins_text : TextKind → Expect → List ℕ → Bool
begins_text kind (expects.Types types) [] = false
begins_text kind (expects.Types types) (type ∷ rest) = allows types type && has_text_of kind type
begins_text kind expects.Chunk p = false
