-- The framing records of MC-NMF: the type of each, and what its bytes are.
use Rattle.std.specs.Prelude.{◌≡◌, ℕ, List, [], ◌∷◌, Some, None, Option}
use Rattle.multibyte_ints.specs.{Integer.Spells, Text.IsString}
use Rattle.nmf_records.specs.declared.frame.Frame.{Frame, TheVariants.Version, TheVariants.Via}
use Rattle.nmf_records.specs.declared.frame.Frame.TheVariants.{Chunk, End, ExtensibleEncoding}
use Rattle.nmf_records.specs.declared.frame.Frame.TheVariants.{Fault, KnownEncoding}
use Rattle.nmf_records.specs.declared.frame.Frame.TheVariants.{Mode, PreambleAck, PreambleEnd}
use Rattle.nmf_records.specs.declared.frame.Frame.TheVariants.{SizedEnvelope, UnsizedEnvelope}
use Rattle.nmf_records.specs.declared.record_types.TheConstants.{END, EXTENSIBLE_ENCODING, FAULT}
use Rattle.nmf_records.specs.declared.record_types.TheConstants.{KNOWN_ENCODING, MODE}
use Rattle.nmf_records.specs.declared.record_types.TheConstants.{PREAMBLE_ACK, PREAMBLE_END}
use Rattle.nmf_records.specs.declared.record_types.TheConstants.{SIZED_ENVELOPE, UNSIZED_ENVELOPE}
use Rattle.nmf_records.specs.declared.record_types.TheConstants.{VERSION, VIA}

-- the type of a record; a chunk's size has none
abbrev pub type_of : Frame → Option ℕ
type_of (Version major minor) = Some VERSION
type_of (Mode mode) = Some MODE
type_of Via = Some VIA
type_of (KnownEncoding encoding) = Some KNOWN_ENCODING
type_of ExtensibleEncoding = Some EXTENSIBLE_ENCODING
type_of UnsizedEnvelope = Some UNSIZED_ENVELOPE
type_of (Chunk size) = None
type_of (SizedEnvelope size) = Some SIZED_ENVELOPE
type_of End = Some END
type_of Fault = Some FAULT
type_of PreambleAck = Some PREAMBLE_ACK
type_of PreambleEnd = Some PREAMBLE_END

-- a record, with the text of a Via or a Fault, or the content type of an Extensible Encoding
pub record Read : Type 0 where
  pub frame : Frame
  pub text : List ℕ

-- some string is these bytes
abbrev pub IsTextRecord : ℕ → List ℕ → List ℕ → Type 0
IsTextRecord kind text bytes = (string : List ℕ) × IsString text string × (bytes ≡ kind ∷ string)

-- the bytes are this record
abbrev pub IsRecordOf : Frame → List ℕ → List ℕ → Type 0
IsRecordOf (Version major minor) text bytes = (text ≡ []) × (bytes ≡ VERSION ∷ major ∷ minor ∷ [])
IsRecordOf (Mode mode) text bytes = (text ≡ []) × (bytes ≡ MODE ∷ mode ∷ [])
IsRecordOf Via text bytes = IsTextRecord VIA text bytes
IsRecordOf (KnownEncoding encoding) text bytes =
    (text ≡ []) × (bytes ≡ KNOWN_ENCODING ∷ encoding ∷ [])
IsRecordOf ExtensibleEncoding text bytes = IsTextRecord EXTENSIBLE_ENCODING text bytes
IsRecordOf UnsizedEnvelope text bytes = (text ≡ []) × (bytes ≡ UNSIZED_ENVELOPE ∷ [])
IsRecordOf (Chunk size) text bytes = (text ≡ []) × Spells size bytes
IsRecordOf (SizedEnvelope size) text bytes =
    (text ≡ []) × (spelling : List ℕ) × Spells size spelling × (bytes ≡ SIZED_ENVELOPE ∷ spelling)
IsRecordOf End text bytes = (text ≡ []) × (bytes ≡ END ∷ [])
IsRecordOf Fault text bytes = IsTextRecord FAULT text bytes
IsRecordOf PreambleAck text bytes = (text ≡ []) × (bytes ≡ PREAMBLE_ACK ∷ [])
IsRecordOf PreambleEnd text bytes = (text ≡ []) × (bytes ≡ PREAMBLE_END ∷ [])

-- the bytes are what was read
abbrev pub IsRecord : Read → List ℕ → Type 0
IsRecord read bytes = IsRecordOf read.frame read.text bytes
