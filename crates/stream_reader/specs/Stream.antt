-- A stream of either side as a grammar of units: a record, where an envelope's is its head, the
-- size of a chunk, or a byte of an envelope's payload. What the payload is read by is nested in it:
-- a byte of it, sized or of a chunk, leads on where the payload stands, by the grammar of payloads.
use Rattle.std.specs.Prelude.{ℕ, ◌+◌, ◌-◌, Bool, true, false, not, ◌&&◌, ◌||◌, List, [], ◌∷◌}
use Rattle.std.specs.Prelude.{if◌then◌else◌, nat_lt, nat_le, ◌==◌, Some, None, Option, option_map}
use Rattle.std.specs.{Prelude.bytes_eq, Option.option_or}
use Rattle.unit_streams.specs.{Front.begun, Front.Front, Judging.refusal_of}
use Rattle.unit_streams.specs.Grammar.{at_start, Grammar, resumed, Standing}
use Rattle.unit_streams.specs.Parts.{a_byte, seen}
use Rattle.string_tables.specs.StaticStrings.{Entry}
use Rattle.nmf_records.specs.RecordFronts.{frame_at, limits_within, TextLimits}
use Rattle.nbfx_values.specs.declared.{content.Item.Item, session.Mode.Mode}
use Rattle.nbfx_values.specs.declared.refusals.{Offence.Offence, Reason.Reason}
use Rattle.nbfx_values.specs.declared.session.Kind.{Kind, TheVariants.Plain, TheVariants.Session}
use Rattle.nbfx_values.specs.declared.session.Mode.TheVariants.{Duplex, Simplex, Singleton}
use Rattle.nbfx_values.specs.Limits.{Limits}
use Rattle.nbfx_values.specs.Session.{content_type, kind_number, mode_number}
use Rattle.nmf_records.specs.declared.frame.{Frame.Frame, FrameFault.FrameFault}
use Rattle.nmf_records.specs.declared.frame.Frame.TheVariants.{Chunk, End, ExtensibleEncoding}
use Rattle.nmf_records.specs.declared.frame.Frame.TheVariants.{Fault, KnownEncoding}
use Rattle.nmf_records.specs.declared.frame.Frame.TheVariants.{Mode as ModeRecord, PreambleAck}
use Rattle.nmf_records.specs.declared.frame.Frame.TheVariants.{PreambleEnd, SizedEnvelope}
use Rattle.nmf_records.specs.declared.frame.Frame.TheVariants.{UnsizedEnvelope, Version, Via}
use Rattle.nmf_records.specs.{declared.record_types.TheConstants.UPGRADE_REQUEST, Records.Read}
use Rattle.nmf_records.specs.declared.script.{Direction.Direction, Due.Due}
use Rattle.nmf_records.specs.declared.script.Direction.TheVariants.{FromInitiator, FromReceiver}
use Rattle.nmf_records.specs.Script.{first, leads, may_come, may_end}
use Rattle.nbfx_decoder.specs.Payload.{NoEvent, payload, PayloadUnit, Refusal}
use Rattle.nbfx_decoder.specs.Payload.{Settings as PayloadSettings, Situation as PayloadSituation}
use Rattle.nbfx_values.specs.declared.refusals.Place.TheVariants as places
use Rattle.nbfx_values.specs.declared.refusals.Reason.TheVariants as reasons
use Rattle.nmf_records.specs.declared.frame.FrameFault.TheVariants as faults
use Rattle.nmf_records.specs.declared.script.Due.TheVariants as dues

-- whose stream it is
pub data Side : Type 0 where
  -- an initiator's, to the Via that is served alone, or to any
  initiators : Option (List ℕ) → Side
  -- a receiver's, in the mode and the encoding that its initiator named
  receivers : Mode → Kind → Side

abbrev pub direction_of : Side → Direction
direction_of (initiators endpoint) = FromInitiator
direction_of (receivers mode kind) = FromReceiver

-- what a reading end is set to
pub record Settings : Type 0 where
  pub side : Side
  -- the strings that both ends have
  pub statics : List Entry
  pub limits : Limits

-- how long its records' texts may be
abbrev pub text_limits : Settings → TextLimits
text_limits x = limits_within x.limits.via

-- an initiator's stream, to any Via
abbrev pub any_initiators : List Entry → Limits → Settings
any_initiators statics limits =
    record { side = initiators None; statics = statics; limits = limits }

-- where a payload stands
abbrev pub PayloadStanding : Type 0
PayloadStanding = Standing PayloadSituation NoEvent Refusal

-- how a payload goes on behind the bytes that are still to come
pub data Form : Type 0 where
  -- it is whole, and a record of a session's messages comes
  sized : Form
  -- the size of another chunk comes
  chunked : Form
  -- the size 0 has ended it, and End comes
  last_chunk : Form

-- what is due there
abbrev pub due_behind : Form → Due
due_behind sized = dues.Messages
due_behind chunked = dues.Chunk
due_behind last_chunk = dues.End

-- the payload of an envelope, in one part or in chunks, so far as their sizes are known
pub record OpenPayload : Type 0 where
  -- the offset of its envelope's type byte
  pub from : ℕ
  -- bytes in all, of the chunks so far
  pub size : ℕ
  -- bytes still to come of these
  pub left : ℕ
  -- how it goes on behind them
  pub form : Form
  -- by its bytes so far
  pub standing : PayloadStanding

-- what comes next
pub data Stage : Type 0 where
  -- a record, of those that may come where this is due
  record_due : Due → Stage
  -- the size of the payload's next chunk
  chunk_due : OpenPayload → Stage
  -- a byte of a payload
  payload_open : OpenPayload → Stage

-- what whole units leave behind
pub record Situation : Type 0 where
  pub stage : Stage
  -- of an initiator's Mode record, duplex until there is one; a receiver's is the settings'
  pub mode : Mode
  -- of an initiator's Known Encoding or Extensible Encoding record, a session's until there is one
  pub kind : Kind
  -- of the last Via or Fault; empty until there is one
  pub text : List ℕ
  -- how many documents are whole
  pub messages : ℕ
  -- the strings that the payloads before have brought
  pub strings : List (List ℕ)

abbrev pub first_mode : Side → Mode
first_mode (initiators endpoint) = Duplex
first_mode (receivers mode kind) = mode

abbrev pub first_kind : Side → Kind
first_kind (initiators endpoint) = Session
first_kind (receivers mode kind) = kind

abbrev pub beginning : Settings → Situation
beginning x = record {
  stage = record_due (first (direction_of x.side));
  mode = first_mode x.side;
  kind = first_kind x.side;
  text = [];
  messages = 0;
  strings = [];
}

pub data StreamUnit : Type 0 where
  frame : Read → StreamUnit
  payload_byte : ℕ → StreamUnit

-- a document that an envelope brought
pub record Envelope : Type 0 where
  -- counted from 0
  pub number : ℕ
  -- bytes of its payload
  pub size : ℕ
  -- of the document
  pub items : List Item
  -- the strings of the direction behind it
  pub strings : List (List ℕ)

pub data StreamEvent : Type 0 where
  -- an initiator's preamble is whole
  opened : Mode → Kind → (via : List ℕ) → StreamEvent
  -- a receiver takes the session on
  accepted : StreamEvent
  -- an envelope is whole
  message : Envelope → StreamEvent
  -- so many bytes are a session
  ended : ℕ → StreamEvent
  -- a receiver's Fault ends the session behind so many bytes
  peer_fault : ℕ → (text : List ℕ) → StreamEvent

-- why a type byte may not come
abbrev pub unexpected : Due → ℕ → Reason
unexpected dues.PreambleEnd byte =
    if byte == UPGRADE_REQUEST then reasons.UpgradeRefused else reasons.OutOfOrder
unexpected _ byte = reasons.OutOfOrder

abbrev pub reason_of : Due → FrameFault → Reason
reason_of due faults.UnknownRecord = reasons.UnknownRecord
reason_of due (faults.Unexpected byte) = unexpected due byte
reason_of due faults.BadInt = reasons.BadInt
reason_of due faults.TextTooLong = reasons.TextTooLong
reason_of due faults.TypeTooLong = reasons.ContentTypeTooLong
reason_of due faults.TextNotUtf8 = reasons.TextNotUtf8

-- the modes that there are, and the one that a byte names
abbrev pub is_mode : ℕ → Bool
is_mode byte = (byte == mode_number Singleton) || ((byte == mode_number Duplex)
    || (byte == mode_number Simplex))

abbrev pub mode_of : ℕ → Mode
mode_of byte = if byte == mode_number Singleton then Singleton
    else (if byte == mode_number Simplex then Simplex else Duplex)

-- a known encoding is binary, with a session's strings or without
abbrev pub is_binary : ℕ → Bool
is_binary encoding = (encoding == kind_number Plain) || (encoding == kind_number Session)

-- what payloads are under it
abbrev pub kind_of : ℕ → Kind
kind_of encoding = if encoding == kind_number Plain then Plain else Session

-- a content type is that of one of these, and what payloads are under it
abbrev pub is_binary_type : List ℕ → Bool
is_binary_type type = bytes_eq (content_type Plain) type || bytes_eq (content_type Session) type

abbrev pub kind_of_type : List ℕ → Kind
kind_of_type type = if bytes_eq (content_type Plain) type then Plain else Session

-- the Via is served
abbrev pub serves : Side → List ℕ → Bool
serves (initiators (Some endpoint)) via = bytes_eq endpoint via
serves side via = true

-- the bytes of the payload before a chunk
abbrev pub size_before : Stage → ℕ
size_before (chunk_due p) = p.size
size_before stage = 0

-- why a size is refused, with which a payload has so many bytes
abbrev pub too_large : Settings → ℕ → Option Reason
too_large x size = if nat_lt x.limits.payload size then Some reasons.MessageTooLarge else None

-- why what a whole record says is refused
abbrev pub reason_in : Settings → Stage → Frame → List ℕ → Option Reason
reason_in x stage (Version major minor) text =
    if (major == 1) && (minor == 0) then None else Some reasons.BadVersion
reason_in x stage (ModeRecord byte) text = if is_mode byte then None else Some reasons.BadMode
reason_in x stage Via text =
    if serves x.side text then None else Some reasons.EndpointNotFound
reason_in x stage (KnownEncoding encoding) text =
    if is_binary encoding then None else Some reasons.BadEncoding
reason_in x stage ExtensibleEncoding text =
    if is_binary_type text then None else Some reasons.BadEncoding
reason_in x stage (SizedEnvelope size) text = too_large x size
reason_in x stage (Chunk size) text = too_large x (size_before stage + size)
reason_in x stage read text = None

-- a refusal in a record at this offset of the stream
abbrev pub offence_at : ℕ → Reason → Offence
offence_at from reason = record { place = places.Frame from; reason = reason }

-- a refusal in the payload of the envelope with this number
abbrev pub offence_in : ℕ → Refusal → Offence
offence_in number r = record { place = places.Payload number r.at; reason = r.reason }

-- what payloads of this kind are read by
abbrev pub payloads : Settings → Kind → PayloadSettings
payloads x kind = record { statics = x.statics; kind = kind; limits = x.limits }

-- the grammar of the next payload
abbrev pub payload_in : Settings → Situation → Grammar PayloadSituation PayloadUnit NoEvent Refusal
payload_in x z = payload (payloads x z.kind) z.strings

-- the record at the front of some bytes, where one is due, or a chunk's size
abbrev pub due_record_at : Settings → Due → ℕ → List ℕ → Front StreamUnit Offence
due_record_at x dues.Over from bytes = begun
due_record_at x due from bytes =
    seen frame (λ fault. offence_at from (reason_of due fault))
    (frame_at (text_limits x) (may_come (direction_of x.side) due) bytes)

abbrev pub payload_at : List ℕ → Front StreamUnit Offence
payload_at bytes = seen payload_byte (λ o. o) (a_byte bytes)

-- the unit at the front of some bytes
unfoldable pub unit_in : Settings → Stage → ℕ → List ℕ → Front StreamUnit Offence
unit_in x (record_due due) from bytes = due_record_at x due from bytes
unit_in x (chunk_due p) from bytes = due_record_at x dues.Chunk from bytes
unit_in x (payload_open p) from bytes = payload_at bytes

-- what is due where a record is read
abbrev pub due_in : Stage → Due
due_in (record_due due) = due
due_in (chunk_due p) = dues.Chunk
due_in (payload_open p) = due_behind p.form

-- where a record leads, in this mode
abbrev pub led : Settings → Mode → Stage → Frame → Due
led x mode stage read = leads (direction_of x.side) mode (due_in stage) read

-- a payload of so many bytes, before the first of them
abbrev pub payload_begun : Settings → Situation → ℕ → ℕ → Form → OpenPayload
payload_begun x z from size form = record {
  from = from;
  size = size;
  left = size;
  form = form;
  standing = at_start (payload_in x z) [];
}

-- the payload with a chunk of so many bytes more, which ends it where they are none
abbrev pub with_chunk : OpenPayload → ℕ → OpenPayload
with_chunk p size = record p {
  size = p.size + size;
  left = size;
  form = if size == 0 then last_chunk else chunked;
}

-- the payload with one more byte
abbrev pub with_byte : Settings → Situation → OpenPayload → ℕ → OpenPayload
with_byte x z p byte = record p {
  left = p.left - 1;
  standing = resumed (payload_in x z) p.standing (byte ∷ []);
}

-- another chunk's size comes behind it
abbrev pub is_chunked : Form → Bool
is_chunked chunked = true
is_chunked form = false

-- all bytes of the payload are there
abbrev pub is_whole : OpenPayload → Bool
is_whole p = (p.left == 0) && not (is_chunked p.form)

-- why a payload that stands so is refused by its last byte, or, where all its bytes are there, by
-- its end
abbrev pub refusal_in : Settings → Situation → OpenPayload → Option Refusal
refusal_in x z p = option_or (refusal_of (payload_in x z) p.standing (p.size - p.left))
    (if is_whole p
    then (payload_in x z).at_end p.standing.situation p.standing.from p.size
    else None)

-- the document of a payload that isn't refused, where all its bytes are there
abbrev pub envelope_unless : ℕ → OpenPayload → Option Refusal → Option Envelope
envelope_unless number p (Some r) = None
envelope_unless number p None = if is_whole p
    then Some (record {
      number = number;
      size = p.size;
      items = p.standing.situation.items;
      strings = p.standing.situation.strings;
    })
    else None

abbrev pub envelope_in : Settings → Situation → OpenPayload → Option Envelope
envelope_in x z p = envelope_unless z.messages p (refusal_in x z p)

-- one document more
abbrev pub messages_with : Option Envelope → ℕ → ℕ
messages_with None n = n
messages_with (Some envelope) n = n + 1

-- the situation behind bytes of a payload of which none is to come: another chunk's size comes, or
-- another record
abbrev pub behind_last : Settings → Situation → OpenPayload → Situation
behind_last x z p = if is_chunked p.form
    then record z { stage = chunk_due p }
    else record z {
      stage = record_due (due_behind p.form);
      messages = messages_with (envelope_in x z p) z.messages;
      strings = p.standing.situation.strings;
    }

-- the situation behind bytes of a payload
abbrev pub behind_payload : Settings → Situation → OpenPayload → Situation
behind_payload x z p =
    if p.left == 0 then behind_last x z p else record z { stage = payload_open p }

-- the payload behind the head of an envelope, or a chunk's size, at this offset, where there is one
abbrev pub payload_by : Settings → Situation → ℕ → Frame → Option OpenPayload
payload_by x z from (SizedEnvelope size) = Some (payload_begun x z from size sized)
payload_by x z from UnsizedEnvelope = Some (payload_begun x z from 0 chunked)
payload_by x z from (Chunk size) = in_chunks z.stage where
  in_chunks : Stage → Option OpenPayload
  in_chunks (chunk_due p) = Some (with_chunk p size)
  in_chunks stage = None
payload_by x z from read = None

-- what f makes of a payload, or else the other
abbrev pub on_payload : {A : Type 0} → Option OpenPayload → (OpenPayload → A) → A → A
on_payload (Some p) f other = f p
on_payload None f other = other

-- the situation behind a record of no payload
abbrev pub after_bare : Settings → Situation → Frame → List ℕ → Situation
after_bare x z Via text = record z { stage = record_due (led x z.mode z.stage Via); text = text }
after_bare x z Fault text =
    record z { stage = record_due (led x z.mode z.stage Fault); text = text }
after_bare x z (ModeRecord byte) text = record z {
  stage = record_due (led x z.mode z.stage (ModeRecord byte));
  mode = mode_of byte;
}
after_bare x z (KnownEncoding encoding) text = record z {
  stage = record_due (led x z.mode z.stage (KnownEncoding encoding));
  kind = kind_of encoding;
  strings = [];
}
after_bare x z ExtensibleEncoding text = record z {
  stage = record_due (led x z.mode z.stage ExtensibleEncoding);
  kind = kind_of_type text;
  strings = [];
}
after_bare x z read text = record z { stage = record_due (led x z.mode z.stage read) }

-- the situation behind a record that begins at this offset
abbrev pub after_record : Settings → Situation → ℕ → Frame → List ℕ → Situation
after_record x z from read text =
    on_payload (payload_by x z from read) (behind_payload x z) (after_bare x z read text)

-- of a byte where a payload is open
abbrev pub on_open : {A : Type 0} → Stage → (OpenPayload → A) → A → A
on_open (payload_open p) f other = f p
on_open stage f other = other

unfoldable pub after : Settings → Situation → ℕ → StreamUnit → Situation
after x z from (frame read) = after_record x z from read.frame read.text
after x z from (payload_byte byte) =
    on_open z.stage (λ p. behind_payload x z (with_byte x z p byte)) z

-- the event that bytes of a payload complete
abbrev pub completed_payload : Settings → Situation → OpenPayload → Option StreamEvent
completed_payload x z p = option_map message (envelope_in x z p)

-- the event that a record of no payload completes, up to this offset
abbrev pub completed_bare : Situation → ℕ → Frame → List ℕ → Option StreamEvent
completed_bare z to PreambleEnd text = Some (opened z.mode z.kind z.text)
completed_bare z to PreambleAck text = Some accepted
completed_bare z to End text = Some (ended to)
completed_bare z to Fault text = Some (peer_fault to text)
completed_bare z to read text = None

-- the event that a record completes which begins at this offset, up to that one
abbrev pub completed_record : Settings → Situation → ℕ → ℕ → Frame → List ℕ → Option StreamEvent
completed_record x z from to read text =
    on_payload (payload_by x z from read) (completed_payload x z) (completed_bare z to read text)

unfoldable pub completed : Settings → Situation → ℕ → ℕ → StreamUnit → Option StreamEvent
completed x z from to (frame read) = completed_record x z from to read.frame read.text
completed x z from to (payload_byte byte) =
    on_open z.stage (λ p. completed_payload x z (with_byte x z p byte)) None

-- why bytes of a payload are refused
abbrev pub refused_payload : Settings → Situation → OpenPayload → Option Offence
refused_payload x z p = option_map (offence_in z.messages) (refusal_in x z p)

-- why a record is refused that begins at this offset: by what it says, or by a payload of which no
-- byte is to come
abbrev pub refused_record : Settings → Situation → ℕ → Frame → List ℕ → Option Offence
refused_record x z from read text = option_or
    (option_map (offence_at from) (reason_in x z.stage read text))
    (on_payload (payload_by x z from read) (refused_payload x z) None)

unfoldable pub refused : Settings → Situation → ℕ → StreamUnit → Option Offence
refused x z from (frame read) = refused_record x z from read.frame read.text
refused x z from (payload_byte byte) =
    on_open z.stage (λ p. refused_payload x z (with_byte x z p byte)) None

-- the session is over
abbrev pub is_over_in : Stage → Bool
is_over_in (record_due dues.Over) = true
is_over_in stage = false

-- the first byte of the record that isn't whole (of an envelope, its type byte), or the end of the
-- bytes
abbrev pub open_from : Stage → ℕ → ℕ
open_from (payload_open p) from = p.from
open_from (chunk_due p) from = p.from
open_from (record_due due) from = from

-- as many bytes as the session quota, and the session isn't over
unfoldable pub too_long : Settings → Stage → ℕ → ℕ → Option Offence
too_long x stage from n = if nat_le x.limits.session n && not (is_over_in stage)
    then Some (offence_at (open_from stage from) reasons.SessionTooLong)
    else None

-- the input may end behind so many bytes where the session is over, and where it may end and no
-- byte of another record has come
abbrev pub may_end_in : Settings → Mode → Stage → ℕ → ℕ → Bool
may_end_in x mode (record_due dues.Over) from n = true
may_end_in x mode (record_due due) from n =
    may_end (direction_of x.side) mode due && (from == n)
may_end_in x mode stage from n = false

unfoldable pub cut_off : Settings → Mode → Stage → ℕ → ℕ → Option Offence
cut_off x mode stage from n = if may_end_in x mode stage from n
    then None
    else Some (offence_at (open_from stage from) reasons.Truncated)

-- the stream's grammar
abbrev pub stream : Settings → Grammar Situation StreamUnit StreamEvent Offence
stream x = record {
  start = beginning x;
  unit_at = λ z from bytes. unit_in x z.stage from bytes;
  after = after x;
  refused = refused x;
  completed = completed x;
  is_over = λ z. is_over_in z.stage;
  at_length = λ z from n. too_long x z.stage from n;
  at_end = λ z from n. cut_off x z.mode z.stage from n;
}

-- the events that end a session
abbrev pub ends : StreamEvent → Bool
ends (ended n) = true
ends (peer_fault n text) = true
ends event = false

-- the strings of the direction so far, those of an open payload among them
abbrev pub strings_at : Situation → Stage → List (List ℕ)
strings_at z (record_due due) = z.strings
strings_at z (chunk_due p) = p.standing.situation.strings
strings_at z (payload_open p) = p.standing.situation.strings

abbrev pub strings_in : Situation → List (List ℕ)
strings_in z = strings_at z z.stage
