-- The script of a session (MC-NMF): what may come in the stream of each direction, where each
-- record leads, and the same as a grammar on lists of records and chunks' sizes. What a reader
-- refuses in a record, such as another version, is no matter of it, but that the Mode record names
-- the mode.
use Rattle.std.specs.Prelude.{◌≡◌, ℕ, ◌+◌, ◌^◌, ◌<◌, Bool, true, false, ◌⊎◌, List, [], ◌∷◌, ◌++◌}
use Rattle.std.specs.Prelude.{map, if◌then◌else◌, IsSome, ◌==◌, bit_or, All}
use Rattle.nbfx_values.specs.{declared.session.Mode.Mode, Session.mode_number}
use Rattle.nbfx_values.specs.declared.session.Mode.TheVariants.{Duplex, Simplex, Singleton}
use Rattle.nmf_records.specs.declared.frame.{Expect.Expect, Frame.Frame}
use Rattle.nmf_records.specs.declared.record_types.TheConstants.{END, EXTENSIBLE_ENCODING, FAULT}
use Rattle.nmf_records.specs.declared.record_types.TheConstants.{KNOWN_ENCODING, MODE}
use Rattle.nmf_records.specs.declared.record_types.TheConstants.{PREAMBLE_ACK, PREAMBLE_END}
use Rattle.nmf_records.specs.declared.record_types.TheConstants.{SIZED_ENVELOPE, UNSIZED_ENVELOPE}
use Rattle.nmf_records.specs.declared.record_types.TheConstants.{VERSION, VIA}
use Rattle.nmf_records.specs.declared.script.{Direction.Direction, Due.Due}
use Rattle.nmf_records.specs.declared.script.Direction.TheVariants.{FromInitiator, FromReceiver}
use Rattle.nmf_records.specs.{RecordFronts.MayCome, Records.type_of}
use Rattle.nmf_records.specs.declared.frame.Frame.TheVariants as frames
use Rattle.nmf_records.specs.declared.frame.Expect.TheVariants as expects
use Rattle.nmf_records.specs.declared.script.Due.TheVariants as dues

-- what a stream begins with
abbrev pub first : Direction → Due
first FromInitiator = dues.Version
first FromReceiver = dues.Ack

-- these types, and Fault's in a receiver's stream: there a Fault may come in place of any record
abbrev pub or_fault : Direction → ℕ → Expect
or_fault FromInitiator types = expects.Types types
or_fault FromReceiver types = expects.Types (bit_or types (2 ^ FAULT))

-- what may come where this is due, a record of type t as the bit t
abbrev pub may_come : Direction → Due → Expect
may_come direction dues.Version = or_fault direction (2 ^ VERSION)
may_come direction dues.Mode = or_fault direction (2 ^ MODE)
may_come direction dues.Via = or_fault direction (2 ^ VIA)
may_come direction dues.Encoding =
    or_fault direction (2 ^ KNOWN_ENCODING + 2 ^ EXTENSIBLE_ENCODING)
may_come direction dues.PreambleEnd = or_fault direction (2 ^ PREAMBLE_END)
may_come direction dues.Ack = or_fault direction (2 ^ PREAMBLE_ACK)
may_come direction dues.Messages = or_fault direction (2 ^ SIZED_ENVELOPE + 2 ^ END)
may_come direction dues.Envelope = or_fault direction (2 ^ UNSIZED_ENVELOPE)
may_come direction dues.Reply = or_fault direction (2 ^ UNSIZED_ENVELOPE + 2 ^ END)
may_come direction dues.Chunk = expects.Chunk
may_come direction dues.End = or_fault direction (2 ^ END)
may_come direction dues.Over = expects.Types 0

-- what comes behind the preamble
abbrev pub behind_preamble : Direction → Mode → Due
behind_preamble FromInitiator Singleton = dues.Envelope
behind_preamble FromInitiator Duplex = dues.Messages
behind_preamble FromInitiator Simplex = dues.Messages
behind_preamble FromReceiver Singleton = dues.Reply
behind_preamble FromReceiver Duplex = dues.Messages
behind_preamble FromReceiver Simplex = dues.End

-- where a record that may come leads
abbrev pub leads : Direction → Mode → Due → Frame → Due
leads direction mode due (frames.Version major minor) = dues.Mode
leads direction mode due (frames.Mode byte) = dues.Via
leads direction mode due frames.Via = dues.Encoding
leads direction mode due (frames.KnownEncoding encoding) = dues.PreambleEnd
leads direction mode due frames.ExtensibleEncoding = dues.PreambleEnd
leads direction mode due frames.PreambleEnd = behind_preamble direction mode
leads direction mode due frames.PreambleAck = behind_preamble direction mode
leads direction mode due frames.UnsizedEnvelope = dues.Chunk
leads direction mode due (frames.Chunk size) = if size == 0 then dues.End else due
leads direction mode due (frames.SizedEnvelope size) = due
leads direction mode due frames.End = dues.Over
leads direction mode due frames.Fault = dues.Over

-- a stream may end where the session is over, and a receiver's of one-way messages behind its Ack
abbrev pub may_end : Direction → Mode → Due → Bool
may_end direction mode dues.Over = true
may_end FromReceiver Simplex dues.End = true
may_end direction mode due = false

-- where these records lead from there
abbrev pub due_behind : Direction → Mode → Due → List Frame → Due
due_behind direction mode due [] = due
due_behind direction mode due (frame ∷ rest) =
    due_behind direction mode (leads direction mode due frame) rest

-- a Mode record names the mode
abbrev pub NamesMode : Mode → Frame → Type 0
NamesMode mode (frames.Mode byte) = byte ≡ mode_number mode
NamesMode mode frame = Unit {0}

-- each of these records may come where those before it lead, a Mode record names the mode, and all
-- lead to where the stream may end
pub record LeadsToEnd (direction : Direction) (mode : Mode) (script : List Frame) : Type 0 where
  pub each : (before after : List Frame) (frame : Frame) → script ≡ before ++ frame ∷ after
      → MayCome (may_come direction (due_behind direction mode (first direction) before)) frame
      × NamesMode mode frame
  pub ended : may_end direction mode (due_behind direction mode (first direction) script) ≡ true

-- Here begins the grammar, which knows nothing of what is due.

-- sized envelopes, of which each record here is the head
abbrev pub AreSized : List Frame → Type 0
AreSized envelopes = (sizes : List ℕ) × (envelopes ≡ map frames.SizedEnvelope sizes)

-- an unsized envelope: its head, the sizes of its chunks and the size that ends it
abbrev pub IsUnsized : List Frame → Type 0
IsUnsized envelope = (sizes : List ℕ) × All (λ size. 0 < size) sizes
    × (envelope ≡ frames.UnsizedEnvelope ∷ map frames.Chunk sizes ++ frames.Chunk 0 ∷ [])

-- the envelopes of a stream
abbrev pub AreEnvelopes : Direction → Mode → List Frame → Type 0
AreEnvelopes FromInitiator Singleton envelopes = IsUnsized envelopes
AreEnvelopes FromReceiver Singleton envelopes = (envelopes ≡ []) ⊎ IsUnsized envelopes
AreEnvelopes direction Duplex envelopes = AreSized envelopes
AreEnvelopes FromInitiator Simplex envelopes = AreSized envelopes
AreEnvelopes FromReceiver Simplex envelopes = envelopes ≡ []

-- a record that names the encoding of the envelopes, by its number or by its content type
abbrev pub IsEncoding : Frame → Type 0
IsEncoding (frames.KnownEncoding encoding) = Unit {0}
IsEncoding frames.ExtensibleEncoding = Unit {0}
IsEncoding frame = ⊥

-- an initiator's preamble, its envelopes and End
pub record IsInitiatorsScript (mode : Mode) (script : List Frame) : Type 0 where
  pub major : ℕ
  pub minor : ℕ
  pub encoding : Frame
  pub is_encoding : IsEncoding encoding
  pub envelopes : List Frame
  pub sent : AreEnvelopes FromInitiator mode envelopes
  pub joined : script ≡ frames.Version major minor ∷ frames.Mode (mode_number mode) ∷ frames.Via
      ∷ encoding ∷ frames.PreambleEnd ∷ envelopes ++ frames.End ∷ []

-- a receiver's Ack, its envelopes and End
pub record IsAnswer (mode : Mode) (script : List Frame) : Type 0 where
  pub envelopes : List Frame
  pub sent : AreEnvelopes FromReceiver mode envelopes
  pub joined : script ≡ frames.PreambleAck ∷ envelopes ++ frames.End ∷ []

-- the Ack alone, which is enough where messages are one-way
abbrev pub IsLoneAck : Mode → List Frame → Type 0
IsLoneAck mode script = (mode ≡ Simplex) × (script ≡ frames.PreambleAck ∷ [])

-- an answer that a Fault ends, in place of one of its records; a chunk's size is no record
pub record IsCutShort (mode : Mode) (script : List Frame) : Type 0 where
  pub before : List Frame
  pub in_place_of : Frame
  pub after : List Frame
  pub record_of : IsSome (type_of in_place_of)
  pub answer : IsAnswer mode (before ++ in_place_of ∷ after)
  pub joined : script ≡ before ++ frames.Fault ∷ []

-- the records of a whole stream, in a session of this mode
abbrev pub IsScript : Direction → Mode → List Frame → Type 0
IsScript FromInitiator mode script = IsInitiatorsScript mode script
IsScript FromReceiver mode script =
    IsAnswer mode script ⊎ IsLoneAck mode script ⊎ IsCutShort mode script
