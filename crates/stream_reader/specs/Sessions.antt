-- The sessions of MC-NMF in each direction and mode, as a grammar: an initiator's preamble or a
-- receiver's Ack, envelopes whose payloads are documents, each under the strings that the ones
-- before left, and what closes the session; and the events that these parts are.
use Rattle.std.specs.Prelude.{◌≡◌, ℕ, ◌+◌, ◌<◌, ◌≤◌, true, ◌⊎◌, ◌↔◌, List, [], ◌∷◌, ◌++◌, length}
use Rattle.std.specs.Prelude.{None}
use Rattle.{std.specs.Prelude.⊤, nmf_records.specs.Records.IsRecordOf}
use Rattle.unit_streams.specs.Judging.{history, offence as offence_by}
use Rattle.nbfx_values.specs.declared.{content.Item.Item, session.Kind.Kind, session.Mode.Mode}
use Rattle.nbfx_values.specs.declared.session.Mode.TheVariants.{Simplex, Singleton}
use Rattle.nbfx_values.specs.Limits.{IsGood}
use Rattle.nbfx_values.specs.Session.{content_type, kind_number, mode_number}
use Rattle.nmf_records.specs.declared.{frame.Frame.Frame, script.Direction.Direction}
use Rattle.nmf_records.specs.declared.script.Direction.TheVariants.{FromInitiator, FromReceiver}
use Rattle.nbfx_decoder.specs.Laws.{IsWholePayload}
use Rattle.stream_reader.specs.Stream.{accepted, ended, Envelope, initiators, message, opened}
use Rattle.stream_reader.specs.Stream.{payloads, peer_fault, receivers, serves, Settings, Side}
use Rattle.stream_reader.specs.Stream.{stream, StreamEvent}
use Rattle.nmf_records.specs.declared.frame.Frame.TheVariants as frames

-- a record without a text
abbrev pub IsBare : Frame → List ℕ → Type 0
IsBare frame bytes = IsRecordOf frame [] bytes

-- an encoding's record: by its number, or by its content type
abbrev pub NamesKind : Kind → List ℕ → Type 0
NamesKind kind bytes = IsBare (frames.KnownEncoding (kind_number kind)) bytes
    ⊎ IsRecordOf frames.ExtensibleEncoding (content_type kind) bytes

-- Version 1.0, a mode, a Via that is served, an encoding, and the preamble's end
pub record IsPreamble (x : Settings) (mode : Mode) (kind : Kind) (via bytes : List ℕ)
    : Type 0 where
  pub version : List ℕ
  pub mode_record : List ℕ
  pub via_record : List ℕ
  pub encoding : List ℕ
  pub end : List ℕ
  pub joined : bytes ≡ version ++ mode_record ++ via_record ++ encoding ++ end
  pub is_version : IsBare (frames.Version 1 0) version
  pub is_mode : IsBare (frames.Mode (mode_number mode)) mode_record
  pub is_via : IsRecordOf frames.Via via via_record
  pub via_within : length via ≤ x.limits.via
  pub served : serves x.side via ≡ true
  pub is_encoding : NamesKind kind encoding
  pub is_end : IsBare frames.PreambleEnd end

-- chunks that carry these bytes, of which none is empty, and the size 0 that ends them
unfoldable pub AreChunks : List (List ℕ) → List ℕ → Type 0
AreChunks [] bytes = IsBare (frames.Chunk 0) bytes
AreChunks (chunk ∷ more) bytes =
    (head : List ℕ) × (rest : List ℕ) × (0 < length chunk)
    × IsBare (frames.Chunk (length chunk)) head
    × (bytes ≡ head ++ chunk ++ rest) × AreChunks more rest

-- joined
unfoldable pub joined : List (List ℕ) → List ℕ
joined [] = []
joined (chunk ∷ more) = chunk ++ joined more

-- the bytes are an envelope of this payload: in singleton mode an unsized one, else a sized one
abbrev pub IsSized : List ℕ → List ℕ → Type 0
IsSized payload bytes = (head : List ℕ)
    × IsBare (frames.SizedEnvelope (length payload)) head × (bytes ≡ head ++ payload)

abbrev pub IsUnsized : List ℕ → List ℕ → Type 0
IsUnsized payload bytes = (head : List ℕ) × (chunks : List (List ℕ)) × (rest : List ℕ)
    × IsBare frames.UnsizedEnvelope head × AreChunks chunks rest × (payload ≡ joined chunks)
    × (bytes ≡ head ++ rest)

abbrev pub IsEnvelopeIn : Mode → List ℕ → List ℕ → Type 0
IsEnvelopeIn Singleton payload bytes = IsUnsized payload bytes
IsEnvelopeIn mode payload bytes = IsSized payload bytes

-- what an envelope carries: a document's payload, and the strings with which that begins
pub record Carried : Type 0 where
  pub payload : List ℕ
  pub items : List Item
  pub own : List (List ℕ)

-- an envelope for each, where the direction had these strings before
abbrev pub CarriesAll : Settings → Mode → Kind → List (List ℕ) → List Carried → List ℕ → Type 0
CarriesAll x mode kind strings [] bytes = bytes ≡ []
CarriesAll x mode kind strings (one ∷ more) bytes =
    (envelope : List ℕ) × (rest : List ℕ) × IsEnvelopeIn mode one.payload envelope
    × IsWholePayload (payloads x kind) strings one.own one.items one.payload
    × (bytes ≡ envelope ++ rest) × CarriesAll x mode kind (strings ++ one.own) more rest

-- in this direction and mode a session may carry these documents
abbrev pub MayCarry : Direction → Mode → List Carried → Type 0
MayCarry FromInitiator Singleton carried = length carried ≡ 1
MayCarry FromReceiver Singleton carried = length carried ≤ 1
MayCarry FromReceiver Simplex carried = carried ≡ []
MayCarry direction mode carried = ⊤

-- what a session brings
pub data Parts : Type 0 where
  -- an initiator's preamble, documents and End
  conversation : Mode → Kind → (via : List ℕ) → List Carried → Parts
  -- a receiver's Ack, documents and End
  answer : List Carried → Parts
  -- its Ack alone, where messages are one-way
  lone_ack : Parts
  -- its Ack, documents, and a Fault with this text
  broken_off : List Carried → (text : List ℕ) → Parts
  -- a Fault in place of the Ack
  turned_down : (text : List ℕ) → Parts

-- a Fault record whose text is within the quota
abbrev pub IsFault : Settings → List ℕ → List ℕ → Type 0
IsFault x text bytes = IsRecordOf frames.Fault text bytes × (length text ≤ x.limits.via)

-- the bytes are these documents, and then such a rest
abbrev pub CarriesThen : Settings → Direction → Mode → Kind → List Carried
    → (List ℕ → Type 0) → List ℕ → Type 0
CarriesThen x direction mode kind carried Rest bytes =
    (envelopes : List ℕ) × (rest : List ℕ) × MayCarry direction mode carried
    × CarriesAll x mode kind [] carried envelopes × Rest rest × (bytes ≡ envelopes ++ rest)

-- the bytes are the Ack, and then such a rest
abbrev pub IsAckThen : (List ℕ → Type 0) → List ℕ → Type 0
IsAckThen Rest bytes = (ack : List ℕ) × (rest : List ℕ) × IsBare frames.PreambleAck ack
    × Rest rest × (bytes ≡ ack ++ rest)

-- the bytes are a session of these parts
abbrev pub HasParts : Settings → Side → Parts → List ℕ → Type 0
HasParts x (initiators endpoint) (conversation mode kind via carried) bytes =
    (preamble : List ℕ) × (rest : List ℕ) × IsPreamble x mode kind via preamble
    × CarriesThen x FromInitiator mode kind carried (IsBare frames.End) rest
    × (bytes ≡ preamble ++ rest)
HasParts x (receivers mode kind) (answer carried) bytes =
    IsAckThen (CarriesThen x FromReceiver mode kind carried (IsBare frames.End)) bytes
HasParts x (receivers mode kind) lone_ack bytes =
    (mode ≡ Simplex) × IsAckThen (λ rest. rest ≡ []) bytes
HasParts x (receivers mode kind) (broken_off carried text) bytes =
    IsAckThen (CarriesThen x FromReceiver mode kind carried (IsFault x text)) bytes
HasParts x (receivers mode kind) (turned_down text) bytes = IsFault x text bytes
HasParts x side parts bytes = ⊥

-- within the session quota; the lone Ack, behind which more may come, is below it
abbrev pub IsWithin : Settings → Parts → ℕ → Type 0
IsWithin x lone_ack n = n < x.limits.session
IsWithin x parts n = n ≤ x.limits.session

abbrev pub IsSession : Settings → Parts → List ℕ → Type 0
IsSession x parts bytes = HasParts x x.side parts bytes × IsWithin x parts (length bytes)

-- what may follow a session that closes its stream
abbrev pub MayFollow : Parts → List ℕ → Type 0
MayFollow lone_ack rest = rest ≡ []
MayFollow parts rest = ⊤

-- a session stands at the front of the bytes, and closes the stream
pub record IsClosed (x : Settings) (bytes : List ℕ) : Type 0 where
  pub parts : Parts
  pub session : List ℕ
  pub rest : List ℕ
  pub joined : bytes ≡ session ++ rest
  pub is_session : IsSession x parts session
  pub may_follow : MayFollow parts rest

-- an envelope with this number, where the direction had these strings before
abbrev pub envelope_of : ℕ → List (List ℕ) → Carried → Envelope
envelope_of number strings one = record {
  number = number;
  size = length one.payload;
  items = one.items;
  strings = strings ++ one.own;
}

-- one for each, numbered from here on
unfoldable pub message_events : ℕ → List (List ℕ) → List Carried → List StreamEvent
message_events number strings [] = []
message_events number strings (one ∷ more) =
    message (envelope_of number strings one) ∷ message_events (number + 1) (strings ++ one.own) more

-- the events of a session of so many bytes
abbrev pub session_events : Parts → ℕ → List StreamEvent
session_events (conversation mode kind via carried) n =
    opened mode kind via ∷ message_events 0 [] carried ++ ended n ∷ []
session_events (answer carried) n = accepted ∷ message_events 0 [] carried ++ ended n ∷ []
session_events lone_ack n = accepted ∷ []
session_events (broken_off carried text) n =
    accepted ∷ message_events 0 [] carried ++ peer_fault n text ∷ []
session_events (turned_down text) n = peer_fault n text ∷ []

-- a stream has no offence exactly where a session closes it
abbrev pub ClosedOrRefused : Type 0
ClosedOrRefused = (x : Settings) → IsGood x.limits → (bytes : List ℕ)
    → (offence_by (stream x) bytes ≡ None) ↔ IsClosed x bytes

-- and then its history is the session's events
abbrev pub SessionsAreTold : Type 0
SessionsAreTold = (x : Settings) → IsGood x.limits → (parts : Parts) (session rest : List ℕ)
    → IsSession x parts session → MayFollow parts rest
    → history (stream x) (session ++ rest)
    ≡ record { events = session_events parts (length session); offence = None }

-- so bytes are the session of one list of documents at most
abbrev pub SpellsOneSession : Type 0
SpellsOneSession = (x : Settings) → IsGood x.limits → (parts others : Parts) (bytes : List ℕ)
    → IsSession x parts bytes → IsSession x others bytes
    → session_events parts (length bytes) ≡ session_events others (length bytes)
