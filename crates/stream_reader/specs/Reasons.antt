-- Which bytes of a stream of either side give each reason for refusing it in a record, or by its
-- length, and where it is cut off.
use Rattle.std.specs.Prelude.{◌≡◌, ℕ, ◌+◌, ◌<◌, ◌≤◌, Bool, true, false, ◌≢◌, ◌⊎◌, List, [], ◌∷◌}
use Rattle.std.specs.Prelude.{◌++◌, length, drop, ◌==◌, Some}
use Rattle.unit_streams.specs.{Going.IsGoing, Grammar.standing}
use Rattle.unit_streams.specs.{Judging.is_over_at, Refusals.AreUnits}
use Rattle.multibyte_ints.specs.{Integer.Spells, Laws.FifthIsAbove}
use Rattle.nbfx_values.specs.declared.refusals.Reason.{Reason}
use Rattle.nbfx_values.specs.declared.session.Kind.{Kind, TheVariants.Plain, TheVariants.Session}
use Rattle.nbfx_values.specs.declared.session.Mode.TheVariants.{Duplex, Simplex, Singleton}
use Rattle.nbfx_values.specs.Session.{content_type, kind_number, mode_number}
use Rattle.nmf_records.specs.declared.frame.Frame.TheVariants.{Chunk, ExtensibleEncoding}
use Rattle.nmf_records.specs.declared.frame.Frame.TheVariants.{SizedEnvelope}
use Rattle.nmf_records.specs.declared.frame.Frame.TheVariants.{UnsizedEnvelope, Via}
use Rattle.nmf_records.specs.declared.record_types.TheConstants.{KNOWN_ENCODING, MODE, PREAMBLE_ACK}
use Rattle.nmf_records.specs.declared.record_types.TheConstants.{SIZED_ENVELOPE, VERSION}
use Rattle.nmf_records.specs.{declared.script.Due.Due, Records.IsRecordOf, Script.may_come}
use Rattle.nmf_records.specs.Laws.{BeginsUnexpected, BeginsUnknown, HasBadText, HasLongText}
use Rattle.nmf_records.specs.{Laws.IntegerComes, declared.reader.TheConstants.CONTENT_TYPE_LIMIT}
use Rattle.nmf_records.specs.RecordFronts.{content_type as content_type_text}
use Rattle.nmf_records.specs.RecordFronts.{MayCome, via_or_fault}
use Rattle.nbfx_decoder.specs.{Laws.ShowsNothing, Payload.Settings as PayloadSettings}
use Rattle.nbfx_decoder.specs.Reasons.{IsCutAt, ShowsFrom as ShowsAt}
use Rattle.stream_reader.specs.{Sessions.IsBare, Sessions.joined, Stream.stream, Stream.unexpected}
use Rattle.stream_reader.specs.Stream.{chunk_due, direction_of, initiators, open_from, payload_open}
use Rattle.stream_reader.specs.Stream.{payloads, receivers, record_due, Settings, Situation, Stage}
use Rattle.stream_reader.specs.Stream.{text_limits}
use Rattle.nbfx_values.specs.declared.refusals.Reason.TheVariants as reasons
use Rattle.nmf_records.specs.declared.script.Due.TheVariants as dues

-- a known type that may not come, which is answered so
abbrev pub BeginsOtherwise : Settings → Due → List ℕ → Reason → Type 0
BeginsOtherwise x due bytes reason =
    (t : ℕ) × BeginsUnexpected (may_come (direction_of x.side) due) bytes t
    × (unexpected due t ≡ reason)

-- a version other than 1.0
abbrev pub IsOtherVersion : Due → List ℕ → Type 0
IsOtherVersion due bytes =
    (major : ℕ) × (minor : ℕ) × (due ≡ dues.Version) × (bytes ≡ VERSION ∷ major ∷ minor ∷ [])
    × ((major ≢ 1) ⊎ (minor ≢ 0))

-- a mode other than singleton, duplex and simplex
abbrev pub IsOtherMode : Due → List ℕ → Type 0
IsOtherMode due bytes = (mode : ℕ) × (due ≡ dues.Mode) × (bytes ≡ MODE ∷ mode ∷ [])
    × (mode ≢ mode_number Singleton) × (mode ≢ mode_number Duplex)
    × (mode ≢ mode_number Simplex)

-- a Via other than the one that is served
abbrev pub IsOtherVia : Settings → Due → List ℕ → Type 0
IsOtherVia x due bytes =
    (endpoint : List ℕ) × (via : List ℕ) × (due ≡ dues.Via)
    × (x.side ≡ initiators (Some endpoint)) × IsRecordOf Via via bytes
    × (length via ≤ x.limits.via) × (via ≢ endpoint)

-- a known encoding other than binary, with a session's strings or without
abbrev pub IsOtherEncoding : Due → List ℕ → Type 0
IsOtherEncoding due bytes =
    (encoding : ℕ) × (due ≡ dues.Encoding) × (bytes ≡ KNOWN_ENCODING ∷ encoding ∷ [])
    × (encoding ≢ kind_number Plain) × (encoding ≢ kind_number Session)

-- a content type other than those of the binary encodings
abbrev pub IsOtherType : Due → List ℕ → Type 0
IsOtherType due bytes =
    (type : List ℕ) × (due ≡ dues.Encoding) × IsRecordOf ExtensibleEncoding type bytes
    × (length type ≤ CONTENT_TYPE_LIMIT)
    × (type ≢ content_type Plain) × (type ≢ content_type Session)

-- the head of an envelope with a payload above the quota
abbrev pub IsLargeHead : Settings → Due → List ℕ → Type 0
IsLargeHead x due bytes =
    (size : ℕ) × (spelling : List ℕ) × (due ≡ dues.Messages) × (bytes ≡ SIZED_ENVELOPE ∷ spelling)
    × Spells size spelling × (x.limits.payload < size)

-- the size of a chunk with which a payload that had so many bytes is above the quota
abbrev pub IsLargeChunk : Settings → Due → ℕ → List ℕ → Type 0
IsLargeChunk x due before bytes =
    (size : ℕ) × (due ≡ dues.Chunk) × Spells size bytes × (x.limits.payload < before + size)

-- bytes that show the reason where this is due, behind so many bytes of a payload
abbrev pub Shows : Settings → Due → ℕ → List ℕ → Reason → Type 0
Shows x due before bytes reasons.BadInt =
    (k : ℕ) × IntegerComes (may_come (direction_of x.side) due) bytes k
    × FifthIsAbove (drop k bytes)
Shows x due before bytes reasons.UnknownRecord =
    BeginsUnknown (may_come (direction_of x.side) due) bytes
Shows x due before bytes reasons.OutOfOrder = BeginsOtherwise x due bytes reasons.OutOfOrder
Shows x due before bytes reasons.BadVersion = IsOtherVersion due bytes
Shows x due before bytes reasons.BadMode = IsOtherMode due bytes
Shows x due before bytes reasons.TextTooLong =
    (n : ℕ) × HasLongText via_or_fault (text_limits x)
    (may_come (direction_of x.side) due) bytes n
Shows x due before bytes reasons.TextNotUtf8 =
    (n : ℕ) × HasBadText (text_limits x) (may_come (direction_of x.side) due) bytes n
Shows x due before bytes reasons.EndpointNotFound = IsOtherVia x due bytes
Shows x due before bytes reasons.BadEncoding =
    IsOtherEncoding due bytes ⊎ IsOtherType due bytes
Shows x due before bytes reasons.UpgradeRefused =
    BeginsOtherwise x due bytes reasons.UpgradeRefused
Shows x due before bytes reasons.MessageTooLarge =
    IsLargeHead x due bytes ⊎ IsLargeChunk x due before bytes
Shows x due before bytes reasons.ContentTypeTooLong =
    (n : ℕ) × HasLongText content_type_text (text_limits x)
    (may_come (direction_of x.side) due) bytes n
Shows x due before bytes _ = ⊥

-- bytes that show the reason at this stage, where a record or a chunk's size is read
abbrev pub ShowsIn : Settings → Stage → List ℕ → Reason → Type 0
ShowsIn x (record_due due) bytes reason = Shows x due 0 bytes reason
ShowsIn x (chunk_due p) bytes reason = Shows x dues.Chunk p.size bytes reason
ShowsIn x (payload_open p) bytes reason = ⊥

-- the stream p is whole units, and then bytes from this offset on that show the reason
pub record ShowsFrom (x : Settings) (p : List ℕ) (from : ℕ) (reason : Reason) : Type 0 where
  pub before : List ℕ
  pub bytes : List ℕ
  pub joined : p ≡ before ++ bytes
  pub place : from ≡ length before
  pub units : AreUnits (stream x) before
  pub going_on : is_over_at (stream x) before ≡ false
  pub shows : ShowsIn x (standing (stream x) before).situation.stage bytes reason

-- chunks of these bytes, of which none is empty, with their sizes
unfoldable pub AreWhole : List (List ℕ) → List ℕ → Type 0
AreWhole [] bytes = bytes ≡ []
AreWhole (chunk ∷ more) bytes =
    (head : List ℕ) × (rest : List ℕ) × (0 < length chunk)
    × IsBare (Chunk (length chunk)) head
    × (bytes ≡ (head ++ chunk) ++ rest) × AreWhole more rest

-- the bytes are an envelope so far, of one part, that has brought these of its payload, which are
-- all of them or not
pub record IsSizedPart (z : Situation) (bytes payload : List ℕ) (all : Bool) : Type 0 where
  pub size : ℕ
  pub head : List ℕ
  pub is_due : z.stage ≡ record_due dues.Messages
  pub is_head : IsBare (SizedEnvelope size) head
  pub joined : bytes ≡ head ++ payload
  pub within : length payload ≤ size
  pub is_all : all ≡ (length payload == size)

-- of chunks, up to the end of one
pub record IsChunked (x : Settings) (z : Situation) (bytes payload : List ℕ) : Type 0 where
  pub due : Due
  pub head : List ℕ
  pub front : List ℕ
  pub chunks : List (List ℕ)
  pub is_due : z.stage ≡ record_due due
  pub may_come_there : MayCome (may_come (direction_of x.side) due) UnsizedEnvelope
  pub is_head : IsBare UnsizedEnvelope head
  pub are_whole : AreWhole chunks front
  pub joined_bytes : bytes ≡ head ++ front
  pub payload_is : payload ≡ joined chunks

-- up to the size of another, which ends the payload where it is 0
pub record IsResumed (x : Settings) (z : Situation) (bytes payload : List ℕ) (all : Bool)
    : Type 0 where
  pub front : List ℕ
  pub head : List ℕ
  pub size : ℕ
  pub chunked : IsChunked x z front payload
  pub is_head : IsBare (Chunk size) head
  pub joined_bytes : bytes ≡ front ++ head
  pub low : length payload + size ≤ x.limits.payload
  pub is_all : all ≡ (size == 0)

-- up to a byte of it
pub record IsInChunk (x : Settings) (z : Situation) (bytes payload : List ℕ) : Type 0 where
  pub front : List ℕ
  pub head : List ℕ
  pub size : ℕ
  pub before : List ℕ
  pub part : List ℕ
  pub chunked : IsChunked x z front before
  pub is_head : IsBare (Chunk size) head
  pub some : 0 < length part
  pub within : length part ≤ size
  pub joined_bytes : bytes ≡ (front ++ head) ++ part
  pub payload_is : payload ≡ before ++ part

abbrev pub IsPart : Settings → Situation → List ℕ → List ℕ → Bool → Type 0
IsPart x z bytes payload all = IsSizedPart z bytes payload all
    ⊎ IsResumed x z bytes payload all ⊎ ((all ≡ false) × IsInChunk x z bytes payload)

-- the stream p is whole units, and then an envelope so far
pub record HasPayload (x : Settings) (p : List ℕ) (z : Situation) (payload : List ℕ) (all : Bool)
    : Type 0 where
  pub before : List ℕ
  pub bytes : List ℕ
  pub joined : p ≡ before ++ bytes
  pub units : AreUnits (stream x) before
  pub situation : z ≡ (standing (stream x) before).situation
  pub part : IsPart x z bytes payload all

-- bytes of a payload show the reason, or they are all, show none and its root hasn't ended
abbrev pub ShowsOf : PayloadSettings → List (List ℕ) → Bool → List ℕ → ℕ → Reason → Type 0
ShowsOf x strings all bytes at reason = ShowsAt x strings bytes at reason
    ⊎ ((reason ≡ reasons.DocumentCut) × (all ≡ true) × IsCutAt x strings bytes at
    × ShowsNothing x strings bytes)

-- the payload of the envelope with this number shows the reason, at this offset of the payload
abbrev pub ShowsInPayload : Settings → List ℕ → ℕ → ℕ → Reason → Type 0
ShowsInPayload x p number at reason =
    (z : Situation) × (payload : List ℕ) × (all : Bool) × HasPayload x p z payload all
    × (z.messages ≡ number) × ShowsOf (payloads x z.kind) z.strings all payload at reason

-- the open record, or the envelope that is open, begins at this offset
abbrev pub OpensAt : Settings → List ℕ → ℕ → Type 0
OpensAt x p from =
    from ≡ open_from (standing (stream x) p).situation.stage (standing (stream x) p).from

-- the stream p has as many bytes as the session quota, isn't over, and is refused by nothing else
pub record IsTooLong (x : Settings) (p : List ℕ) (from : ℕ) : Type 0 where
  pub reached : x.limits.session ≤ length p
  pub going_on : is_over_at (stream x) p ≡ false
  pub going : IsGoing (stream x) (standing (stream x) p)
  pub place : OpensAt x p from

-- the stream p is the Ack alone of a receiver in simplex mode
abbrev pub IsLoneAck : Settings → List ℕ → Type 0
IsLoneAck x p = (kind : Kind) × (x.side ≡ receivers Simplex kind) × (p ≡ PREAMBLE_ACK ∷ [])

-- the stream p isn't over, nor the Ack that is enough where messages are one-way
pub record IsCutOff (x : Settings) (p : List ℕ) (from : ℕ) : Type 0 where
  pub going_on : is_over_at (stream x) p ≡ false
  pub not_alone : IsLoneAck x p → ⊥
  pub place : OpensAt x p from
