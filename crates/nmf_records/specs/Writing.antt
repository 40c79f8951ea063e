-- Framing records as they are written: with the shortest spelling of each size and length. And the
-- texts of the faults that a receiver sends.
use Rattle.std.specs.Prelude.{◌≡◌, ℕ, ◌^◌, ◌<◌, ◌≤◌, ◌⊎◌, Bool, true, false, List, [], ◌∷◌, ◌++◌}
use Rattle.std.specs.Prelude.{length}
use Rattle.std.specs.Prelude.{Some, None, codes, IsUtf8, Option, option_map}
use Rattle.{unit_streams.specs.Front.whole, nbfx_values.specs.declared.refusals.Reason.Reason}
use Rattle.multibyte_ints.specs.{Integer.shortest, Text.string_bytes_of}
use Rattle.nmf_records.specs.{declared.frame.Expect.Expect, Records.IsRecord, Records.Read}
use Rattle.nmf_records.specs.declared.frame.Frame.{Frame, TheVariants.Version, TheVariants.Via}
use Rattle.nmf_records.specs.declared.frame.Frame.TheVariants.{Chunk, End, ExtensibleEncoding}
use Rattle.nmf_records.specs.declared.frame.Frame.TheVariants.{Fault, KnownEncoding}
use Rattle.nmf_records.specs.declared.frame.Frame.TheVariants.{Mode, PreambleAck, PreambleEnd}
use Rattle.nmf_records.specs.declared.frame.Frame.TheVariants.{SizedEnvelope, UnsizedEnvelope}
use Rattle.nmf_records.specs.declared.record_types.TheConstants.{END, EXTENSIBLE_ENCODING, FAULT}
use Rattle.nmf_records.specs.declared.record_types.TheConstants.{KNOWN_ENCODING, MODE}
use Rattle.nmf_records.specs.declared.record_types.TheConstants.{PREAMBLE_ACK, PREAMBLE_END}
use Rattle.nmf_records.specs.declared.record_types.TheConstants.{SIZED_ENVELOPE, UNSIZED_ENVELOPE}
use Rattle.nmf_records.specs.declared.record_types.TheConstants.{VERSION, VIA}
use Rattle.nmf_records.specs.declared.reader.TheConstants.{CONTENT_TYPE_LIMIT}
use Rattle.nmf_records.specs.RecordFronts.{frame_at, MayCome, text_limit, TextLimits}
use Rattle.nbfx_values.specs.declared.refusals.Reason.TheVariants as reasons

-- a record of this type can have a text of so many bytes: a Via or a Fault of 2,048, an Extensible
-- Encoding of 256
abbrev pub CanHave : ℕ → ℕ → Type 0
CanHave type n = (((type ≡ VIA) ⊎ (type ≡ FAULT)) × (n ≤ 2048))
    ⊎ ((type ≡ EXTENSIBLE_ENCODING) × (n ≤ CONTENT_TYPE_LIMIT))

-- a record of a text, of this type
abbrev pub text_frame_bytes : ℕ → List ℕ → List ℕ
text_frame_bytes kind text = kind ∷ string_bytes_of text

-- the bytes of a record as it is written, with its text where it has one
abbrev pub frame_bytes_of : Frame → List ℕ → List ℕ
frame_bytes_of (Version major minor) text = VERSION ∷ major ∷ minor ∷ []
frame_bytes_of (Mode mode) text = MODE ∷ mode ∷ []
frame_bytes_of Via text = text_frame_bytes VIA text
frame_bytes_of (KnownEncoding encoding) text = KNOWN_ENCODING ∷ encoding ∷ []
frame_bytes_of ExtensibleEncoding text = text_frame_bytes EXTENSIBLE_ENCODING text
frame_bytes_of UnsizedEnvelope text = UNSIZED_ENVELOPE ∷ []
frame_bytes_of (Chunk size) text = shortest size
frame_bytes_of (SizedEnvelope size) text = SIZED_ENVELOPE ∷ shortest size
frame_bytes_of End text = END ∷ []
frame_bytes_of Fault text = text_frame_bytes FAULT text
frame_bytes_of PreambleAck text = PREAMBLE_ACK ∷ []
frame_bytes_of PreambleEnd text = PREAMBLE_END ∷ []

-- the bytes of what was read, as they are written
abbrev pub frame_bytes : Read → List ℕ
frame_bytes read = frame_bytes_of read.frame read.text

-- it has a text
abbrev pub has_text : Frame → Bool
has_text Via = true
has_text ExtensibleEncoding = true
has_text Fault = true
has_text frame = false

-- the size that it tells, of a payload or of a chunk
abbrev pub size_told : Frame → ℕ
size_told (Chunk size) = size
size_told (SizedEnvelope size) = size
size_told frame = 0

-- there is no text where the record has none
abbrev pub HasItsText : Frame → List ℕ → Type 0
HasItsText Via text = IsUtf8 text × (length text < 2 ^ 31)
HasItsText ExtensibleEncoding text = IsUtf8 text × (length text < 2 ^ 31)
HasItsText Fault text = IsUtf8 text × (length text < 2 ^ 31)
HasItsText frame text = text ≡ []

-- it can be written
pub record IsWritable (read : Read) : Type 0 where
  pub size : size_told read.frame < 2 ^ 31
  pub text : HasItsText read.frame read.text

-- what is written is the record
abbrev pub WrittenAreRecords : Type 0
WrittenAreRecords = (read : Read) → IsWritable read → IsRecord read (frame_bytes read)

-- and is read back, whatever follows
abbrev pub WrittenAreRead : Type 0
WrittenAreRead = (limits : TextLimits) (expect : Expect) (read : Read) (rest : List ℕ)
    → IsWritable read
    → MayCome expect read.frame → length read.text ≤ text_limit limits read.frame
    → frame_at limits expect (frame_bytes read ++ rest) ≡ whole read (length (frame_bytes read))

-- what comes before the word in the text of a fault (MC-NMF, 2.2.3.5)
abbrev pub fault_namespace : List ℕ
fault_namespace = codes "http://schemas.microsoft.com/ws/2006/05/framing/faults/"

-- the word by which the peer is told why its stream is refused, where there is one
abbrev pub fault_word : Reason → Option (List ℕ)
fault_word reasons.BadVersion = Some (codes "UnsupportedVersion")
fault_word reasons.BadMode = Some (codes "UnsupportedMode")
fault_word reasons.TextTooLong = Some (codes "ViaTooLong")
fault_word reasons.EndpointNotFound = Some (codes "EndpointNotFound")
fault_word reasons.BadEncoding = Some (codes "ContentTypeInvalid")
fault_word reasons.UpgradeRefused = Some (codes "UpgradeInvalid")
fault_word reasons.MessageTooLarge = Some (codes "MaxMessageSizeExceededFault")
fault_word reasons.ContentTypeTooLong = Some (codes "ContentTypeTooLong")
fault_word reason = None

-- the text of the Fault record that says so
abbrev pub fault_text_of : Reason → Option (List ℕ)
fault_text_of reason = option_map (λ word. fault_namespace ++ word) (fault_word reason)
