-- What a reader of a stream stands for, and what it shows. Of the bytes that it used it keeps the
-- framing's text, and of an open payload what a decoder does.
use Rattle.std.specs.Prelude.{◌≡◌, ℕ, ◌+◌, ◌<◌, ◌≤◌, true, ◌⊎◌, List, [], ◌++◌, length, take, Some}
use Rattle.std.specs.Prelude.{None, Option, ⊤}
use Rattle.unit_streams.specs.{Going.IsGoing, Going.IsQuiet, Grammar.standing}
use Rattle.unit_streams.specs.Judging.{Answer, event_at, is_over_at, refusal_at, used}
use Rattle.string_tables.specs.SessionStrings.{used_cost}
use Rattle.nbfx_values.specs.declared.{content.Item.Item, refusals.Offence.Offence}
use Rattle.nbfx_values.specs.{Limits.IsGood, Limits.Limits, QuotasOf.limits_of}
use Rattle.nmf_records.specs.declared.{frame.Expect.Expect, reader.FrameReader.FrameReader}
use Rattle.nmf_records.specs.{declared.script.Direction.Direction, Script.may_come}
use Rattle.nmf_records.specs.Reader.{held_of as frames_held_of, ShowsText as FramesShowText}
use Rattle.nmf_records.specs.Reader.{StandsFor as FrameStandsFor}
use Rattle.nmf_records.specs.{declared.reader.TheConstants.CONTENT_TYPE_LIMIT}
use Rattle.nmf_records.specs.RecordFronts.{content_type, via_or_fault}
use Rattle.nbfx_decoder.specs.declared.{decoder.Decoder.Decoder, faults.DecodeFault.DecodeFault}
use Rattle.nbfx_decoder.specs.DecoderState.{content_held_of as decoder_content_held_of}
use Rattle.nbfx_decoder.specs.DecoderState.{FailedBehind as DecoderFailedBehind}
use Rattle.nbfx_decoder.specs.DecoderState.{held_of as decoder_held_of}
use Rattle.nbfx_decoder.specs.DecoderState.{settings_of as decoder_settings, situation_of}
use Rattle.nbfx_decoder.specs.DecoderState.{StandsFor as DecoderStandsFor}
use Rattle.stream_reader.specs.declared.awaited.{Awaited.Awaited, Closing.Closing}
use Rattle.stream_reader.specs.declared.awaited.{Form.Form as FormRead, PayloadLeft.PayloadLeft}
use Rattle.stream_reader.specs.declared.reader.{ReadRefusal.ReadRefusal, StreamReader.StreamReader}
use Rattle.stream_reader.specs.declared.reader.ReadRefusal.TheVariants.{Memory, Offence as Refused}
use Rattle.stream_reader.specs.{Sides.side_of, Stream.StreamEvent, Stream.strings_in}
use Rattle.stream_reader.specs.Stream.{chunk_due, chunked, direction_of, ended, Form, last_chunk}
use Rattle.stream_reader.specs.Stream.{OpenPayload, payload_in, payload_open, payloads, peer_fault}
use Rattle.stream_reader.specs.Stream.{record_due, Settings, Situation, sized, Stage, stream}
use Rattle.nmf_records.specs.declared.script.Due.TheVariants as dues
use Rattle.stream_reader.specs.declared.awaited.Awaited.TheVariants as awaits
use Rattle.stream_reader.specs.declared.awaited.Closing.TheVariants as closings
use Rattle.stream_reader.specs.declared.awaited.Form.TheVariants as forms

-- what the reader is set to
unfoldable pub settings_of : StreamReader → Settings
settings_of r =
    record { side = side_of r.side; statics = r.statics.now; limits = limits_of r.quotas }

-- its quotas may be
pub has_good_quotas : (r : StreamReader) → IsGood (settings_of r).limits
unfolding settings_of
has_good_quotas r = r.quotas.good

-- how many bytes it has used, or that show its offence
unfoldable pub taken_of : StreamReader → ℕ
taken_of r = r.taken

-- how many documents were whole
unfoldable pub messages_of : StreamReader → ℕ
messages_of r = r.messages

-- the refusal that it answers from now on
unfoldable pub failure_of : StreamReader → Option ReadRefusal
failure_of r = r.failure

-- how many bytes of the input it holds: of the framing's text, and of an open payload
unfoldable pub held_of : StreamReader → ℕ
held_of r = decoder_held_of r.decoder + frames_held_of r.frames

-- the content of an open payload's items that it holds
unfoldable pub content_held_of : StreamReader → ℕ
content_held_of r = decoder_content_held_of r.decoder

-- the text that it shows
unfoldable pub ShowsText : StreamReader → List ℕ → Type 0
ShowsText r text = FramesShowText via_or_fault r.frames text

-- the bytes that texts may have: a Via or a Fault, and a content type
abbrev pub texts_within : Limits → ℕ
texts_within limits = limits.via + CONTENT_TYPE_LIMIT

-- the reader of records shows some content type, that of the last Extensible Encoding
abbrev pub ShowsType : FrameReader → Type 0
ShowsType frames = (type : List ℕ) × FramesShowText content_type frames type

-- how a payload goes on
abbrev pub form_for : Form → FormRead
form_for sized = forms.Sized
form_for chunked = forms.Chunked
form_for last_chunk = forms.LastChunk

-- what is left of a payload
abbrev pub left_of : OpenPayload → PayloadLeft
left_of p = record { from = p.from; size = p.size; left = p.left; form = form_for p.form }

-- what comes next of the reader where this comes next of the stream
abbrev pub awaited_at : Stage → Awaited
awaited_at (record_due due) = awaits.Record due
awaited_at (chunk_due p) = awaits.Chunk (left_of p)
awaited_at (payload_open p) = awaits.Payload (left_of p)

-- the reader of records has these bytes of one, or of a chunk's size, or, within a payload, of none
abbrev pub HasBegun : Direction → Stage → FrameReader → List ℕ → Type 0
HasBegun direction (payload_open p) frames begun = (next : Expect) → FrameStandsFor frames next []
HasBegun direction (chunk_due p) frames begun =
    FrameStandsFor frames (may_come direction dues.Chunk) begun
HasBegun direction (record_due due) frames begun =
    FrameStandsFor frames (may_come direction due) begun

-- the decoder has the bytes so far of the payload that stands so
pub record HasPart (d : Decoder) (x : Settings) (z : Situation) (p : OpenPayload) : Type 0 where
  pub bytes : List ℕ
  pub stands_for : DecoderStandsFor d z.strings bytes
  pub standing_is : p.standing ≡ standing (payload_in x z) bytes
  pub counted : length bytes + p.left ≡ p.size
  pub within : p.size ≤ x.limits.payload

-- the decoder has come as far as the payload that is open, of which there is more or another chunk
-- comes, or is before the next one
abbrev pub ReadsPayload : Decoder → Settings → Situation → Stage → Type 0
ReadsPayload d x z (record_due due) = DecoderStandsFor d z.strings []
ReadsPayload d x z (chunk_due p) = (p.left ≡ 0) × HasPart d x z p
ReadsPayload d x z (payload_open p) = (0 < p.left) × HasPart d x z p

-- how the session has ended is what this event says
abbrev pub Recalls : Closing → Option StreamEvent → Type 0
Recalls closings.End (Some (ended n)) = ⊤
Recalls closings.Fault (Some (peer_fault n text)) = ⊤
Recalls closing event = ⊥

-- it is in this situation
pub record IsIn (r : StreamReader) (x : Settings) (z : Situation) : Type 0 where
  pub awaits : r.awaited ≡ awaited_at z.stage
  pub mode : r.mode ≡ z.mode
  pub kind : r.kind ≡ z.kind
  pub messages : r.messages ≡ z.messages
  pub decodes : decoder_settings r.decoder ≡ payloads x z.kind
  pub payload : ReadsPayload r.decoder x z z.stage

-- it has come as far as p, and isn't refused
pub record Reached (r : StreamReader) (x : Settings) (p : List ℕ) : Type 0 where
  pub at : IsIn r x (standing (stream x) p).situation
  pub frames : HasBegun (direction_of x.side) (standing (stream x) p).situation.stage r.frames
      (standing (stream x) p).begun
  pub text : FramesShowText via_or_fault r.frames (standing (stream x) p).situation.text
  pub type : ShowsType r.frames
  pub closing : is_over_at (stream x) p ≡ true → Recalls r.closing (event_at (stream x) p)
  pub unit_from : r.unit_from ≡ (standing (stream x) p).from
  pub taken : r.taken ≡ length p
  pub within : length p ≤ x.limits.session
  pub going : IsGoing (stream x) (standing (stream x) p)
  pub unfailed : r.failure ≡ None

-- the bytes used, of a stream that isn't refused
unfoldable pub StandsFor : StreamReader → List ℕ → Type 0
StandsFor r p = Reached r (settings_of r) p

-- it has used the bytes that it stands for
pub counts_taken : (r : StreamReader) (p : List ℕ) → StandsFor r p → taken_of r ≡ length p
unfolding StandsFor taken_of
counts_taken r p stands = stands.taken

-- this holds wherever it stands
abbrev pub WhereItStands : StreamReader → (List ℕ → Type 0) → Type 0
WhereItStands r Holds = (p : List ℕ) → StandsFor r p → Holds p

-- what a decoder shows: these strings, of payload bytes that it stands for or has failed behind
pub record ShowsTable (d : Decoder) (strings : List (List ℕ)) : Type 0 where
  pub before : List (List ℕ)
  pub bytes : List ℕ
  pub there : DecoderStandsFor d before bytes
      ⊎ ((fault : DecodeFault) × DecoderFailedBehind d fault before bytes)
  pub same : (situation_of (decoder_settings d) before bytes).strings ≡ strings
  pub within : used_cost strings ≤ (decoder_settings d).limits.dictionary

-- the strings that it shows
unfoldable pub ShowsStrings : StreamReader → List (List ℕ) → Type 0
ShowsStrings r strings = ShowsTable r.decoder strings

-- what a refused reader shows: the refusal, how many bytes were used or show it, and behind the
-- bytes p the text, how many documents were whole, and the strings
pub record Failed (r : StreamReader) (x : Settings) (refusal : ReadRefusal) (taken : ℕ)
    (p : List ℕ) : Type 0 where
  pub failure : failure_of r ≡ Some refusal
  pub taken_is : taken_of r ≡ taken
  pub text : ShowsText r (standing (stream x) p).situation.text
  pub messages : messages_of r ≡ (standing (stream x) p).situation.messages
  pub strings : ShowsStrings r (strings_in (standing (stream x) p).situation)

unfoldable pub FailedBehind : StreamReader → ReadRefusal → ℕ → List ℕ → Type 0
FailedBehind r refusal taken p = Failed r (settings_of r) refusal taken p

-- this holds wherever it has failed
abbrev pub WhereItFailed : StreamReader → (ReadRefusal → ℕ → List ℕ → Type 0) → Type 0
WhereItFailed r Holds = (refusal : ReadRefusal) (taken : ℕ) (p : List ℕ)
    → FailedBehind r refusal taken p → Holds refusal taken p

-- the first k bytes of y behind p decide nothing: they complete no event, and aren't refused
abbrev pub DecideNothing : Settings → List ℕ → List ℕ → ℕ → Type 0
DecideNothing x p y k = IsQuiet (stream x) p y k
    × (refusal_at (stream x) (p ++ take k y) ≡ None)

-- what a piece y behind p leaves of what it makes fail, where Behind says what that shows behind
-- some bytes: where the stream is refused, it is behind the bytes that show it; where there was no
-- memory, behind some that decide nothing, and none of y counts as used
abbrev pub FailsSo : Settings → (ReadRefusal → ℕ → List ℕ → Type 0) → List ℕ → List ℕ
    → Answer StreamEvent Offence → ReadRefusal → Type 0
FailsSo x Behind p y answer (Refused o) =
    Behind (Refused o) (length p + used (length y) answer)
    (p ++ take (used (length y) answer) y)
FailsSo x Behind p y answer Memory =
    (k : ℕ) × DecideNothing x p y k × Behind Memory (length p) (p ++ take k y)

-- what it leaves of a reader
abbrev pub FailsBy : StreamReader → List ℕ → List ℕ → Answer StreamEvent Offence → ReadRefusal
    → Type 0
FailsBy r = FailsSo (settings_of r) (FailedBehind r)

-- payloads may come
abbrev pub HasPayloads : Stage → Type 0
HasPayloads (record_due dues.Messages) = ⊤
HasPayloads (record_due dues.Envelope) = ⊤
HasPayloads (record_due dues.Reply) = ⊤
HasPayloads (chunk_due p) = ⊤
HasPayloads (payload_open p) = ⊤
HasPayloads _ = ⊥

-- the bytes of the payload's unit that isn't whole
abbrev pub begun_in : Stage → List ℕ
begun_in (record_due due) = []
begun_in (chunk_due p) = p.standing.begun
begun_in (payload_open p) = p.standing.begun

-- the items of the payload so far
abbrev pub items_in : Stage → List Item
items_in (record_due due) = []
items_in (chunk_due p) = p.standing.situation.items
items_in (payload_open p) = p.standing.situation.items
