-- The bytes of a script: records of MC-NMF one after the other, each with what follows it, of an
-- envelope or a chunk bytes of its payload.
use Rattle.std.specs.Prelude.{◌≡◌, ℕ, zero, suc, ◌+◌, ◌<◌, ◌≤◌, ◌↔◌, List, [], ◌∷◌, ◌++◌, length}
use Rattle.std.specs.Prelude.{None, Option, ⊤}
use Rattle.nbfx_values.specs.declared.{content.Item.Item, refusals.Reason.Reason}
use Rattle.nbfx_values.specs.declared.session.{Kind.Kind, Mode.Mode}
use Rattle.nmf_records.specs.{declared.frame.Frame.Frame, Records.IsRecordOf, Script.IsScript}
use Rattle.nmf_records.specs.RecordFronts.{text_limit}
use Rattle.nmf_records.specs.declared.frame.Frame.TheVariants.{Chunk, ExtensibleEncoding}
use Rattle.nmf_records.specs.declared.frame.Frame.TheVariants.{KnownEncoding, PreambleAck}
use Rattle.nmf_records.specs.declared.frame.Frame.TheVariants.{SizedEnvelope, UnsizedEnvelope}
use Rattle.nbfx_decoder.specs.Laws.{IsWholePayload}
use Rattle.stream_reader.specs.Sessions.{IsSession, Parts}
use Rattle.stream_reader.specs.Stream.{direction_of, first_kind, initiators, kind_of, kind_of_type}
use Rattle.stream_reader.specs.Stream.{payloads, text_limits}
use Rattle.stream_reader.specs.Stream.{reason_in, receivers, record_due, Settings, Side, too_large}
use Rattle.nmf_records.specs.declared.script.Due.TheVariants as dues

-- what payloads are read by behind some records: their kind, the strings of the direction so far,
-- and of an envelope of chunks the bytes so far
pub record Context : Type 0 where
  pub kind : Kind
  pub strings : List (List ℕ)
  pub so_far : List ℕ

-- before the first record
abbrev pub first_context : Side → Context
first_context side = record { kind = first_kind side; strings = []; so_far = [] }

-- these bytes are a document's payload, which leaves this context
abbrev pub EndsPayload : Settings → Context → List ℕ → Context → Type 0
EndsPayload x context payload then_context =
    (own : List (List ℕ)) × (items : List Item)
    × IsWholePayload (payloads x context.kind) context.strings own items payload
    × (then_context ≡ record context { strings = context.strings ++ own; so_far = [] })

-- the bytes that stand behind a record of this text before the next, and the context then
abbrev pub IsFollowedBy : Settings → Context → Frame → List ℕ → List ℕ → Context → Type 0
IsFollowedBy x context (SizedEnvelope size) text bytes then_context =
    (length bytes ≡ size) × EndsPayload x context bytes then_context
IsFollowedBy x context UnsizedEnvelope text bytes then_context =
    (bytes ≡ []) × (then_context ≡ record context { so_far = [] })
IsFollowedBy x context (Chunk zero) text bytes then_context =
    (bytes ≡ []) × EndsPayload x context context.so_far then_context
IsFollowedBy x context (Chunk (suc size)) text bytes then_context =
    (length bytes ≡ suc size)
    × (then_context ≡ record context { so_far = context.so_far ++ bytes })
IsFollowedBy x context (KnownEncoding encoding) text bytes then_context =
    (bytes ≡ []) × (then_context ≡ record { kind = kind_of encoding; strings = []; so_far = [] })
IsFollowedBy x context ExtensibleEncoding text bytes then_context =
    (bytes ≡ []) × (then_context ≡ record { kind = kind_of_type text; strings = []; so_far = [] })
IsFollowedBy x context frame text bytes then_context = (bytes ≡ []) × (then_context ≡ context)

-- why what a record says is refused there
abbrev pub refused_there : Settings → Context → Frame → List ℕ → Option Reason
refused_there x context (Chunk size) text = too_large x (length context.so_far + size)
refused_there x context frame text = reason_in x (record_due dues.Over) frame text

-- the bytes are this record, which isn't refused by what it says, what stands behind it, and then
-- such a rest
pub record BeginsWith (x : Settings) (context : Context) (frame : Frame)
    (Rest : Context → List ℕ → Type 0) (bytes : List ℕ) : Type 0 where
  pub text : List ℕ
  pub head : List ℕ
  pub payload : List ℕ
  pub rest : List ℕ
  pub then_context : Context
  pub joined : bytes ≡ head ++ payload ++ rest
  pub is_record : IsRecordOf frame text head
  pub unrefused : refused_there x context frame text ≡ None
  pub text_within : length text ≤ text_limit (text_limits x) frame
  pub followed : IsFollowedBy x context frame text payload then_context
  pub next : Rest then_context rest

-- the bytes are these records, one behind the other, each with what stands behind it
abbrev pub HasScript : Settings → Context → List Frame → List ℕ → Type 0
HasScript x context [] bytes = bytes ≡ []
HasScript x context (frame ∷ script) bytes =
    BeginsWith x context frame (λ then_context rest. HasScript x then_context script rest) bytes

-- the mode of a session in a stream of this side: an initiator's names it
abbrev pub IsModeOf : Side → Mode → Type 0
IsModeOf (initiators endpoint) mode = ⊤
IsModeOf (receivers own kind) mode = mode ≡ own

-- within the session quota; the Ack alone, behind which more may come, is below it
abbrev pub IsShort : Settings → List Frame → ℕ → Type 0
IsShort x script n = (n ≤ x.limits.session) × (script ≡ PreambleAck ∷ [] → n < x.limits.session)

-- a session is the records of a script in its mode, none of which is refused, with the payloads of
-- documents, within the session quota
abbrev pub SessionsAreScripts : Type 0
SessionsAreScripts = (x : Settings) (bytes : List ℕ)
    → ((parts : Parts) × IsSession x parts bytes)
    ↔ ((mode : Mode) × (script : List Frame) × IsModeOf x.side mode
    × IsScript (direction_of x.side) mode script × HasScript x (first_context x.side) script bytes
    × IsShort x script (length bytes))
