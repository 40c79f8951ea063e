-- What a reader of records stands for, and what it answers. It keeps of the bytes that it used no
-- more than a text.
use Rattle.std.specs.Prelude.{◌≡◌, ℕ, ◌+◌, List, [], ◌∷◌, ◌++◌, length, drop, if◌then◌else◌, Some}
use Rattle.std.specs.Prelude.{None, Ok, Err, Option, Result}
use Rattle.unit_streams.specs.Front.{begun, Front, whole, wrong}
use Rattle.multibyte_ints.specs.{declared.text.StringReader.StringReader, Text.string_at}
use Rattle.multibyte_ints.specs.Reader.{StandsFor as IntStandsFor}
use Rattle.multibyte_ints.specs.TextReader.{held_of as text_held_of, limit_of as text_limit_of}
use Rattle.multibyte_ints.specs.TextReader.{StringStandsFor, text_of}
use Rattle.nmf_records.specs.declared.frame.{Expect.Expect, FrameFault.FrameFault}
use Rattle.nmf_records.specs.declared.frame.{FrameRefusal.FrameRefusal, FrameStep.FrameStep}
use Rattle.nmf_records.specs.declared.frame.FrameStep.TheVariants.{Done, More}
use Rattle.nmf_records.specs.{declared.reader.FrameReader.FrameReader, Records.Read}
use Rattle.nmf_records.specs.declared.record_types.TheConstants.{EXTENSIBLE_ENCODING, FAULT}
use Rattle.nmf_records.specs.declared.record_types.TheConstants.{KNOWN_ENCODING, MODE}
use Rattle.nmf_records.specs.declared.record_types.TheConstants.{SIZED_ENVELOPE, VERSION, VIA}
use Rattle.nmf_records.specs.declared.stage.{Stage.Stage, TextRecord.TextRecord}
use Rattle.nmf_records.specs.RecordFronts.{begins_text, content_type, frame_at, TextKind}
use Rattle.nmf_records.specs.RecordFronts.{TextLimits, via_or_fault, with_text}
use Rattle.nmf_records.specs.declared.frame.Expect.TheVariants as expects
use Rattle.nmf_records.specs.declared.stage.TextRecord.TheVariants as texts
use Rattle.nmf_records.specs.declared.stage.SizeRecord.TheVariants as sizes
use Rattle.nmf_records.specs.declared.stage.Field.TheVariants as fields
use Rattle.nmf_records.specs.declared.stage.Stage.TheVariants as stages

-- the greatest lengths of the texts that the reader takes
unfoldable pub limits_of : FrameReader → TextLimits
limits_of reader = record {
  text = text_limit_of reader.text;
  content_type = text_limit_of reader.content_type;
}

-- how many bytes of texts the reader holds
unfoldable pub held_of : FrameReader → ℕ
held_of reader = text_held_of reader.text + text_held_of reader.content_type

-- what reads such a text
abbrev pub reader_of : TextKind → FrameReader → StringReader
reader_of via_or_fault reader = reader.text
reader_of content_type reader = reader.content_type

-- which text a record with one has
abbrev pub kind_of : TextRecord → TextKind
kind_of texts.Via = via_or_fault
kind_of texts.ContentType = content_type
kind_of texts.Fault = via_or_fault

-- how many bytes it has of a record that isn't whole, or that a fault needed
unfoldable pub pending_of : FrameReader → ℕ
pending_of reader = reader.pending

-- the refusal at a failed stage, where so many bytes show the fault
abbrev pub refusal_in : Stage → ℕ → Option FrameRefusal
refusal_in (stages.Failed fault) shown_by = Some (record { fault = fault; shown_by = shown_by })
refusal_in _ shown_by = None

-- the refusal that it answers from now on
unfoldable pub failure_of : FrameReader → Option FrameRefusal
failure_of reader = refusal_in reader.stage reader.pending

-- the type byte of a record with a text
abbrev pub type_of_text : TextRecord → ℕ
type_of_text texts.Via = VIA
type_of_text texts.ContentType = EXTENSIBLE_ENCODING
type_of_text texts.Fault = FAULT

-- the bytes at this stage
abbrev pub HasShape : Expect → Stage → List ℕ → Type 0
HasShape expect stages.Type p = p ≡ []
HasShape expect (stages.Field fields.Major) p = p ≡ VERSION ∷ []
HasShape expect (stages.Field (fields.Minor major)) p = p ≡ VERSION ∷ major ∷ []
HasShape expect (stages.Field fields.Mode) p = p ≡ MODE ∷ []
HasShape expect (stages.Field fields.Encoding) p = p ≡ KNOWN_ENCODING ∷ []
HasShape expect (stages.Text record_of) p = p ≡ type_of_text record_of ∷ drop 1 p
HasShape expect (stages.Size sizes.SizedEnvelope) p = p ≡ SIZED_ENVELOPE ∷ drop 1 p
HasShape expect (stages.Size sizes.Chunk) p = expect ≡ expects.Chunk
HasShape expect (stages.Failed fault) p = ⊥

-- of the bytes at this stage, those of a size that has begun
abbrev pub size_bytes : Stage → List ℕ → List ℕ
size_bytes (stages.Size sizes.SizedEnvelope) p = drop 1 p
size_bytes (stages.Size sizes.Chunk) p = p
size_bytes _ p = []

-- the reader of texts has the bytes of one that has begun
abbrev pub HoldsText : Stage → FrameReader → List ℕ → Type 0
HoldsText (stages.Text text) reader p =
    StringStandsFor (reader_of (kind_of text) reader) (drop 1 p)
HoldsText _ reader p = Unit {0}

-- a record has begun, of which it has these bytes
pub record Holds (reader : FrameReader) (expect : Expect) (p : List ℕ) : Type 0 where
  pub begun : frame_at (limits_of reader) expect p ≡ begun
  pub shape : HasShape expect reader.stage p
  pub size : IntStandsFor reader.size (size_bytes reader.stage p)
  pub text : HoldsText reader.stage reader p
  pub counted : reader.pending ≡ length p

-- the bytes since the last whole record, where this may come
unfoldable pub StandsFor : FrameReader → Expect → List ℕ → Type 0
StandsFor reader expect p = Holds reader expect p

-- the text is the one that a reader of texts shows
pub record IsShown (reader : StringReader) (s : List ℕ) : Type 0 where
  pub string : List ℕ
  pub stands : StringStandsFor reader string
  pub text_is : s ≡ text_of (string_at (text_limit_of reader) string)

-- the text of this kind that the reader shows
unfoldable pub ShowsText : TextKind → FrameReader → List ℕ → Type 0
ShowsText kind reader s = IsShown (reader_of kind reader) s

-- the text of a whole record
abbrev pub text_read : Front Read FrameFault → List ℕ
text_read begun = []
text_read (whole read n) = read.text
text_read (wrong fault n) = []

-- the text of this kind that is shown behind these bytes, of which this was read, where s was
-- shown before
abbrev pub text_after : TextKind → List ℕ → Expect → List ℕ → Front Read FrameFault → List ℕ
text_after kind s expect p reading = if begins_text kind expect p then text_read reading else s

-- the text of this kind that is shown behind these bytes, where s was shown before
abbrev pub shown_behind : TextKind → TextLimits → Expect → List ℕ → List ℕ → List ℕ
shown_behind kind limits expect p s = text_after kind s expect p (frame_at limits expect p)

-- what a piece behind p is answered with
abbrev pub FrameAnswers : TextLimits → Expect → List ℕ → List ℕ → Result (ℕ
    × FrameStep) FrameRefusal
    → Type 0
FrameAnswers limits expect p piece (Ok (n, More)) =
    (n ≡ length piece) × (frame_at limits expect (p ++ piece) ≡ begun)
FrameAnswers limits expect p piece (Ok (n, Done frame)) =
    (text : List ℕ)
    × (frame_at limits expect (p ++ piece) ≡ whole (with_text frame text) (length p + n))
FrameAnswers limits expect p piece (Err refusal) =
    frame_at limits expect (p ++ piece) ≡ wrong refusal.fault refusal.shown_by

-- what the reader stands for then, the bytes having been q
abbrev pub AfterPiece : FrameReader → Expect → List ℕ → Result (ℕ × FrameStep) FrameRefusal → Type 0
AfterPiece new expect q (Ok (n, More)) = StandsFor new expect q
AfterPiece new expect q (Ok (n, Done frame)) = (next : Expect) → StandsFor new next []
AfterPiece new expect q (Err refusal) = Unit {0}
