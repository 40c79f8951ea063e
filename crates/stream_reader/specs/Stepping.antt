-- What the parts of a reader's step answer. Public contracts cite none of this.
use Rattle.std.specs.Prelude.{◌≡◌, ℕ, ◌+◌, ◌-◌, ◌^◌, ◌<◌, Bool, true, false, ◌&&◌, List, [], ◌++◌}
use Rattle.std.specs.Prelude.{◌≤◌, length, take, if◌then◌else◌, ◌==◌, Some, None, Ok, Err, Option}
use Rattle.{std.specs.Prelude.Result, nbfx_values.specs.QuotasOf.limits_of}
use Rattle.unit_streams.specs.{Going.IsQuiet, Going.IsQuietBefore, Grammar.standing}
use Rattle.unit_streams.specs.Judging.{event_at, refusal_at}
use Rattle.nbfx_values.specs.declared.refusals.Offence.{Offence}
use Rattle.nbfx_values.specs.declared.session.{Kind.Kind, Mode.Mode}
use Rattle.nmf_records.specs.{declared.frame.Frame.Frame, Writing.has_text}
use Rattle.nmf_records.specs.RecordFronts.{content_type, MayCome, text_kind}
use Rattle.nmf_records.specs.declared.script.{Direction.Direction, Due.Due}
use Rattle.nmf_records.specs.Reader.{ShowsText as FramesShowText}
use Rattle.nmf_records.specs.Script.{IsEncoding, leads, may_come, may_end}
use Rattle.nbfx_decoder.specs.{declared.faults.DecodeFault.DecodeFault, Payload.refusal}
use Rattle.nbfx_decoder.specs.declared.decoder.Decoder.{Decoder}
use Rattle.nbfx_decoder.specs.DecoderState.{failure_of as decoder_failure}
use Rattle.nbfx_decoder.specs.DecoderState.{settings_of as decoder_settings}
use Rattle.nbfx_decoder.specs.DecoderState.{StandsFor as DecoderStandsFor}
use Rattle.nbfx_decoder.specs.DecoderState.{taken_of as decoder_taken}
use Rattle.nbfx_decoder.specs.DecoderState.{WhereItStands as WhereDecoderStands}
use Rattle.nbfx_values.specs.declared.limits.Quotas.{Quotas}
use Rattle.stream_reader.specs.declared.awaited.{Awaited.Awaited, Form.Form}
use Rattle.stream_reader.specs.declared.awaited.{Closing.Closing, PayloadLeft.PayloadLeft}
use Rattle.stream_reader.specs.declared.reader.{ReadRefusal.ReadRefusal, StreamStep.StreamStep}
use Rattle.stream_reader.specs.declared.reader.ReadRefusal.TheVariants.{Memory, Offence as Refused}
use Rattle.stream_reader.specs.{declared.reader.StreamReader.StreamReader, Sides.side_of}
use Rattle.stream_reader.specs.Saying.{step_for}
use Rattle.stream_reader.specs.Stream.{after_record, completed_record, direction_of}
use Rattle.stream_reader.specs.Stream.{is_over_in, kind_of, kind_of_type}
use Rattle.stream_reader.specs.Stream.{mode_of, offence_in}
use Rattle.stream_reader.specs.Stream.{OpenPayload, payloads, refused_record, Settings, Situation}
use Rattle.stream_reader.specs.Stream.{stream, StreamEvent, strings_in}
use Rattle.stream_reader.specs.StreamReaderState.{DecideNothing, Failed, HasPart}
use Rattle.stream_reader.specs.StreamReaderState.{HasPayloads, IsIn, left_of, Reached, Recalls}
use Rattle.stream_reader.specs.StreamReaderState.{settings_of, ShowsTable}
use Rattle.nmf_records.specs.declared.frame.Frame.TheVariants as frames
use Rattle.stream_reader.specs.declared.reader.StreamStep.TheVariants as steps
use Rattle.nbfx_decoder.specs.declared.faults.DecodeFault.TheVariants as faults
use Rattle.nmf_records.specs.declared.script.Due.TheVariants as dues
use Rattle.stream_reader.specs.declared.awaited.Awaited.TheVariants as awaits
use Rattle.stream_reader.specs.declared.awaited.Closing.TheVariants as closings
use Rattle.stream_reader.specs.declared.awaited.Form.TheVariants as forms

-- the step that an event is told by, where there is one
abbrev pub step_of : Option StreamEvent → StreamStep
step_of None = steps.More
step_of (Some event) = step_for event

-- what a form of a payload says of it
abbrev pub due_after : Form → Due
due_after forms.Sized = dues.Messages
due_after forms.Chunked = dues.Chunk
due_after forms.LastChunk = dues.End

abbrev pub is_chunked_form : Form → Bool
is_chunked_form forms.Chunked = true
is_chunked_form form = false

-- a payload before its first byte
abbrev pub begun_with : ℕ → ℕ → Form → PayloadLeft
begun_with from size form = record { from = from; size = size; left = size; form = form }

-- one with a chunk of so many bytes more
abbrev pub with_size : PayloadLeft → ℕ → PayloadLeft
with_size p chunk = record p {
  size = p.size + chunk;
  left = chunk;
  form = if chunk == 0 then forms.LastChunk else forms.Chunked;
}

-- as far as its size is kept
abbrev pub joined_with : PayloadLeft → ℕ → PayloadLeft → Type 0
joined_with p chunk joined = p.size + chunk < 2 ^ 32 → joined ≡ with_size p chunk

-- one with so many bytes more in chunks that are whole
abbrev pub joined_more : PayloadLeft → ℕ → PayloadLeft → Type 0
joined_more p more joined = p.size + more < 2 ^ 32 → joined ≡ record p { size = p.size + more }

-- the payload that the head of an envelope begins which begins at this offset
abbrev pub begun_by : ℕ → Frame → Option PayloadLeft
begun_by from (frames.SizedEnvelope size) = Some (begun_with from size forms.Sized)
begun_by from frames.UnsizedEnvelope = Some (begun_with from 0 forms.Chunked)
begun_by from frame = None

-- the payload that a record makes, or a chunk's size resumes
abbrev pub MakesPayload : Awaited → ℕ → Frame → Option PayloadLeft → Type 0
MakesPayload (awaits.Record due) from frame made = made ≡ begun_by from frame
MakesPayload (awaits.Chunk p) from (frames.Chunk size) made =
    (q : PayloadLeft) × (made ≡ Some q) × joined_with p size q
MakesPayload awaited from frame made = made ≡ None

-- what stays of a reader behind a unit
pub record KeepsFraming (old new : StreamReader) : Type 0 where
  pub side : new.side ≡ old.side
  pub statics : new.statics ≡ old.statics
  pub quotas : new.quotas ≡ old.quotas
  pub frames : new.frames ≡ old.frames
  pub taken : new.taken ≡ old.taken

-- and behind a record of no payload
pub record KeepsParts (old new : StreamReader) : Type 0 where
  pub keeps : KeepsFraming old new
  pub messages : new.messages ≡ old.messages
  pub unit_from : new.unit_from ≡ old.unit_from
  pub failure : new.failure ≡ old.failure

-- where a record of no payload leads the reader, and what it says of it
abbrev pub mode_after : Mode → Frame → Mode
mode_after mode (frames.Mode byte) = mode_of byte
mode_after mode frame = mode

abbrev pub closing_after : Closing → Frame → Closing
closing_after closing frames.End = closings.End
closing_after closing frames.Fault = closings.Fault
closing_after closing frame = closing

abbrev pub bare_step : StreamReader → Frame → StreamStep
bare_step r frames.PreambleEnd = steps.Opened r.mode r.kind
bare_step r frames.PreambleAck = steps.Accepted
bare_step r frames.End = steps.Ended r.taken
bare_step r frames.Fault = steps.PeerFault r.taken
bare_step r frame = steps.More

-- an encoding makes the decoder of payloads anew
abbrev pub DecodesAnew : StreamReader → Kind → StreamReader → Type 0
DecodesAnew old kind new = (new.kind ≡ kind) × DecoderStandsFor new.decoder [] []
    × (decoder_settings new.decoder ≡ record {
      statics = old.statics.now;
      kind = kind;
      limits = limits_of old.quotas;
    })

abbrev pub DecodesAfter : StreamReader → Frame → StreamReader → Type 0
DecodesAfter old (frames.KnownEncoding encoding) new = DecodesAnew old (kind_of encoding) new
DecodesAfter old frames.ExtensibleEncoding new =
    (type : List ℕ) → FramesShowText content_type old.frames type
    → DecodesAnew old (kind_of_type type) new
DecodesAfter old frame new = (new.kind ≡ old.kind) × (new.decoder ≡ old.decoder)

-- another record is due where one was
abbrev pub awaited_after : Direction → Mode → Awaited → Frame → Awaited
awaited_after direction mode (awaits.Record due) frame =
    awaits.Record (leads direction mode due frame)
awaited_after direction mode awaited frame = awaited

pub record IsMoved (old : StreamReader) (frame : Frame) (new : StreamReader)
    (step : StreamStep) : Type 0 where
  pub awaited : new.awaited
      ≡ awaited_after (direction_of (side_of old.side)) old.mode old.awaited frame
  pub mode : new.mode ≡ mode_after old.mode frame
  pub decodes : DecodesAfter old frame new
  pub closing : new.closing ≡ closing_after old.closing frame
  pub step_is : step ≡ bare_step new frame
  pub parts : KeepsParts old new

-- how many bytes of a payload came before a chunk
abbrev pub size_before_of : Awaited → ℕ
size_before_of (awaits.Chunk p) = p.size
size_before_of awaited = 0

-- what bytes c behind p, of one unit or of a payload, are answered with
abbrev pub UnitAnswers : Settings → List ℕ → List ℕ → StreamReader
    → Result (ℕ × StreamStep) ReadRefusal → Type 0
UnitAnswers x p c new (Ok (k, step)) =
    (event : Option StreamEvent) × (0 < k) × IsQuietBefore (stream x) p c k
    × (event_at (stream x) (p ++ take k c) ≡ event) × (step ≡ step_of event)
    × Reached new x (p ++ take k c)
    × (event ≡ None → HasPayloads (standing (stream x) (p ++ take k c)).situation.stage
    → HasPayloads (standing (stream x) p).situation.stage)
UnitAnswers x p c new (Err (Refused o)) =
    (k : ℕ) × IsQuiet (stream x) p c k × (refusal_at (stream x) (p ++ take k c) ≡ Some o)
    × Failed new x (Refused o) (length p + k) (p ++ take k c)
UnitAnswers x p c new (Err Memory) =
    (k : ℕ) × DecideNothing x p c k × HasPayloads (standing (stream x) p).situation.stage
    × Failed new x Memory new.taken (p ++ take k c)

-- nothing more comes
abbrev pub has_ended : Awaited → Bool
has_ended (awaits.Record dues.Over) = true
has_ended _ = false

-- the event that ended the session of so many bytes
abbrev pub closing_step : Closing → ℕ → StreamStep
closing_step closings.End n = steps.Ended n
closing_step closings.Fault n = steps.PeerFault n

-- the input may end behind so many bytes
abbrev pub may_end_at : Direction → Mode → Awaited → ℕ → ℕ → Bool
may_end_at direction mode (awaits.Record dues.Over) from n = true
may_end_at direction mode (awaits.Record due) from n = may_end direction mode due && (from == n)
may_end_at direction mode awaited from n = false

-- where the record begins that isn't whole, or the envelope that is open
abbrev pub opened_at : Awaited → ℕ → ℕ
opened_at (awaits.Payload p) from = p.from
opened_at (awaits.Chunk p) from = p.from
opened_at (awaits.Record due) from = from

-- how many bytes count as used where so many were used before a call, and so many are now
abbrev pub taken_since : ℕ → ℕ → ReadRefusal → ℕ
taken_since before now Memory = before
taken_since before now (Refused o) = now

-- what a fault of a payload is told as, behind so many documents
abbrev pub refusal_told : ℕ → DecodeFault → ReadRefusal
refusal_told messages (faults.Payload at reason shown_by) =
    Refused (offence_in messages (refusal at reason))
refusal_told messages faults.Memory = Memory

-- how many more bytes of a payload show a fault than have come
abbrev pub more_shown : PayloadLeft → DecodeFault → ℕ
more_shown p (faults.Payload at reason shown_by) = shown_by - (p.size - p.left)
more_shown p faults.Memory = 0

-- in this situation it has decoded the bytes so far of this payload
pub record HasDecoded (r : StreamReader) (x : Settings) (z : Situation) (here : PayloadLeft)
    (p : OpenPayload) : Type 0 where
  pub here_is : here ≡ left_of p
  pub mode : r.mode ≡ z.mode
  pub kind : r.kind ≡ z.kind
  pub messages : r.messages ≡ z.messages
  pub few : z.messages + 1 < 2 ^ 64
  pub decodes : decoder_settings r.decoder ≡ payloads x z.kind
  pub part : HasPart r.decoder x z p

-- so many bytes more may come of a payload
pub record MayTake (d : Decoder) (quotas : Quotas) (n : ℕ) : Type 0 where
  pub few : decoder_failure d ≡ None → decoder_taken d + n ≤ quotas.payload
  pub behind : WhereDecoderStands d (λ strings p. length p + n ≤ quotas.payload)

-- the record that is due, or a chunk's size
abbrev pub due_of : Awaited → Option Due
due_of (awaits.Record due) = Some due
due_of (awaits.Chunk p) = Some dues.Chunk
due_of (awaits.Payload p) = None

-- it is in this situation, in which this record may come, with such a text: that of the encoding
-- before any strings
pub record IsDue (r : StreamReader) (x : Settings) (z : Situation) (frame : Frame)
    (text : List ℕ) : Type 0 where
  pub at : IsIn r x z
  pub due : Due
  pub due_is : due_of r.awaited ≡ Some due
  pub may : MayCome (may_come (direction_of x.side) due) frame
  pub few : z.messages + 1 < 2 ^ 64
  pub no_strings : IsEncoding frame → z.strings ≡ []
  pub shown : has_text frame ≡ true → FramesShowText (text_kind frame) r.frames text

-- what it shows of a situation in which it has failed
pub record IsRefusedIn (r : StreamReader) (x : Settings) (z : Situation) : Type 0 where
  pub messages : r.messages ≡ z.messages
  pub strings : ShowsTable r.decoder (strings_in z)

-- what a unit is answered with behind which this is the situation, and which completes that event
-- or is refused so; no memory is wanted for it
abbrev pub BehindAnswers : Settings → Situation → Option StreamEvent → Option Offence → StreamReader
    → Result StreamStep ReadRefusal → Type 0
BehindAnswers x z event None new (Ok step) = IsIn new x z × (step ≡ step_of event)
    × (is_over_in z.stage ≡ true → Recalls new.closing event)
BehindAnswers x z event (Some o) new (Ok step) = ⊥
BehindAnswers x z event None new (Err (Refused o)) = ⊥
BehindAnswers x z event (Some refused) new (Err (Refused o)) = (o ≡ refused) × IsRefusedIn new x z
BehindAnswers x z event refused new (Err Memory) = ⊥

-- what a record is answered with that such a reader has read whole
abbrev pub RecordAnswers : StreamReader → Situation → Frame → List ℕ → StreamReader
    → Result StreamStep ReadRefusal → Type 0
RecordAnswers old z frame text new result =
    BehindAnswers (settings_of old) (after_record (settings_of old) z old.unit_from frame text)
    (completed_record (settings_of old) z old.unit_from old.taken frame text)
    (refused_record (settings_of old) z old.unit_from frame text) new result

-- what it is set to, and what it shows of a stream, stay
pub record KeepsShown (old new : StreamReader) : Type 0 where
  pub side : new.side ≡ old.side
  pub statics : new.statics ≡ old.statics
  pub quotas : new.quotas ≡ old.quotas
  pub frames : new.frames ≡ old.frames
  pub decoder : new.decoder ≡ old.decoder
  pub messages : new.messages ≡ old.messages
