-- What holds of streams of either side by their definitions alone, whatever the settings.
use Rattle.std.specs.Prelude.{◌≡◌, ℕ, ◌+◌, ◌-◌, ◌*◌, ◌<◌, ◌≤◌, false, ◌↔◌, List, length, take, Some}
use Rattle.std.specs.Prelude.{None, Option}
use Rattle.{unit_streams.specs.Grammar.standing, string_tables.specs.SessionStrings.used_cost}
use Rattle.unit_streams.specs.Judging.{answer, ending_at, event_at, is_over_at}
use Rattle.unit_streams.specs.Judging.{offence as offence_by, offends, refusal_at}
use Rattle.nbfx_values.specs.declared.refusals.{Offence.Offence, Reason.Reason}
use Rattle.nbfx_values.specs.declared.refusals.Reason.TheVariants.{SessionTooLong, Truncated}
use Rattle.nbfx_values.specs.declared.session.{Kind.Kind, Mode.Mode}
use Rattle.nbfx_values.specs.Limits.{IsGood, Limits}
use Rattle.nbfx_values.specs.Measures.{content_of, depth_of, opened_by}
use Rattle.nbfx_decoder.specs.{Payload.refusal, Values.values_of}
use Rattle.stream_reader.specs.Reasons.{IsCutOff, IsTooLong, ShowsFrom, ShowsInPayload}
use Rattle.stream_reader.specs.Stream.{chunk_due, ended, Envelope, message, offence_at, offence_in}
use Rattle.stream_reader.specs.Stream.{opened, OpenPayload, payload_open, peer_fault, record_due}
use Rattle.stream_reader.specs.Stream.{Settings, Stage, stream, strings_in}

-- a document that an envelope brings, and the strings behind it, are within the quotas
pub record FitsIn (quotas : Limits) (e : Envelope) : Type 0 where
  pub depth : depth_of e.items ≤ quotas.depth
  pub content : content_of e.items ≤ quotas.content
  pub dictionary : used_cost e.strings ≤ quotas.dictionary

abbrev pub DocumentsFit : Type 0
DocumentsFit = (x : Settings) → IsGood x.limits → (p : List ℕ) (e : Envelope)
    → event_at (stream x) p ≡ Some (message e) → FitsIn x.limits e

-- no shorter prefix is refused
abbrev pub IsUnrefusedBefore : Settings → List ℕ → Type 0
IsUnrefusedBefore x p = (n : ℕ) → n < length p → refusal_at (stream x) (take n p) ≡ None

-- Its payload is too, where nothing before is refused. Behind a refused head a stream stands as if
-- it weren't.
abbrev pub PayloadsFit : Type 0
PayloadsFit = (x : Settings) (p : List ℕ) (e : Envelope)
    → event_at (stream x) p ≡ Some (message e) → IsUnrefusedBefore x p → e.size ≤ x.limits.payload

-- behind an envelope whose document is whole a stream stands with the strings that this leaves, and
-- counts it
abbrev pub MessagesAreCounted : Type 0
MessagesAreCounted = (x : Settings) (p : List ℕ) (e : Envelope)
    → event_at (stream x) p ≡ Some (message e)
    → (strings_in (standing (stream x) p).situation ≡ e.strings)
    × ((standing (stream x) p).situation.messages ≡ e.number + 1)

-- a preamble that is opened tells the mode, the encoding and the text behind it, which is its Via
abbrev pub PreamblesAreTold : Type 0
PreamblesAreTold = (x : Settings) (p : List ℕ) (mode : Mode) (kind : Kind) (via : List ℕ)
    → event_at (stream x) p ≡ Some (opened mode kind via)
    → (mode ≡ (standing (stream x) p).situation.mode)
    × (kind ≡ (standing (stream x) p).situation.kind)
    × (via ≡ (standing (stream x) p).situation.text)

-- an end, and a Fault, tell how many bytes there are, and a Fault the text behind it
abbrev pub EndsAreMeasured : Type 0
EndsAreMeasured = (x : Settings) (p : List ℕ) (n : ℕ)
    → event_at (stream x) p ≡ Some (ended n) → n ≡ length p

abbrev pub FaultsAreMeasured : Type 0
FaultsAreMeasured = (x : Settings) (p : List ℕ) (n : ℕ) (text : List ℕ)
    → event_at (stream x) p ≡ Some (peer_fault n text)
    → (n ≡ length p) × (text ≡ (standing (stream x) p).situation.text)

-- the payload that is open, in one part or between two chunks
abbrev pub open_payload : Stage → Option OpenPayload
open_payload (record_due due) = None
open_payload (chunk_due p) = Some p
open_payload (payload_open p) = Some p

-- what there is of a payload that is open is within the quotas: its document so far, and the
-- strings behind its bytes; and it has no more items than twice its bytes so far, and no more
-- values than bytes
pub record IsBoundedIn (quotas : Limits) (o : OpenPayload) : Type 0 where
  pub open_elements : opened_by 0 (o.standing.situation.items) ≤ quotas.depth
  pub content : content_of (o.standing.situation.items) ≤ quotas.content
  pub dictionary : used_cost (o.standing.situation.strings) ≤ quotas.dictionary
  pub few_items : length (o.standing.situation.items) ≤ 2 * (o.size - o.left)
  pub few_values : values_of (o.standing.situation.items) ≤ o.size - o.left

abbrev pub OpenPayloadsAreBounded : Type 0
OpenPayloadsAreBounded = (x : Settings) → IsGood x.limits → (p : List ℕ) (o : OpenPayload)
    → open_payload (standing (stream x) p).situation.stage ≡ Some o → IsBoundedIn x.limits o

-- as too long exactly by its length
abbrev pub TooLongByLength : Type 0
TooLongByLength = (x : Settings) (p : List ℕ) (from : ℕ)
    → (refusal_at (stream x) p ≡ Some (offence_at from SessionTooLong)) ↔ IsTooLong x p from

-- as any other reason in a record exactly where its bytes show it
abbrev pub RefusedByRecord : Type 0
RefusedByRecord = (x : Settings) (p : List ℕ) (from : ℕ) (reason : Reason)
    → (reason ≡ SessionTooLong → ⊥)
    → (refusal_at (stream x) p ≡ Some (offence_at from reason)) ↔ ShowsFrom x p from reason

-- in a payload exactly where the bytes of the payload show it
abbrev pub InPayloadByBytes : Type 0
InPayloadByBytes = (x : Settings) (p : List ℕ) (number at : ℕ) (reason : Reason)
    → (refusal_at (stream x) p ≡ Some (offence_in number (refusal at reason)))
    ↔ ShowsInPayload x p number at reason

-- no piece shows that a stream is cut off
abbrev pub NoPieceCutsOff : Type 0
NoPieceCutsOff = (x : Settings) (p y : List ℕ) (n : ℕ) (o : Offence)
    → answer (stream x) p y ≡ offends n o → o.reason ≡ Truncated → ⊥

-- the end of the input does where the session isn't over, and shows nothing else
abbrev pub CutOffByEnd : Type 0
CutOffByEnd = (x : Settings) (p : List ℕ) (from : ℕ)
    → (ending_at (stream x) p ≡ Some (offence_at from Truncated)) ↔ IsCutOff x p from

abbrev pub EndCutsOff : Type 0
EndCutsOff = (x : Settings) (p : List ℕ) (o : Offence)
    → ending_at (stream x) p ≡ Some o → (o.reason ≡ Truncated) × (is_over_at (stream x) p ≡ false)

-- this holds of a prefix of the stream, and no shorter one is refused
abbrev pub Begins : Settings → List ℕ → (List ℕ → Type 0) → Type 0
Begins x bytes Holds =
    (n : ℕ) × (n ≤ length bytes) × ((i : ℕ) → i < n → refusal_at (stream x) (take i bytes) ≡ None)
    × Holds (take n bytes)

-- of whole streams
abbrev pub RefusedFirst : Type 0
RefusedFirst = (x : Settings) (bytes : List ℕ) (from : ℕ) (reason : Reason)
    → (reason ≡ SessionTooLong → ⊥) → (reason ≡ Truncated → ⊥)
    → (offence_by (stream x) bytes ≡ Some (offence_at from reason))
    ↔ Begins x bytes (λ p. ShowsFrom x p from reason)

abbrev pub InPayloadFirst : Type 0
InPayloadFirst = (x : Settings) (bytes : List ℕ) (number at : ℕ) (reason : Reason)
    → (offence_by (stream x) bytes ≡ Some (offence_in number (refusal at reason)))
    ↔ Begins x bytes (λ p. ShowsInPayload x p number at reason)

-- a stream is too long exactly where its bytes up to the session quota are
abbrev pub TooLongAtQuota : Type 0
TooLongAtQuota = (x : Settings) (bytes : List ℕ) (from : ℕ)
    → (offence_by (stream x) bytes ≡ Some (offence_at from SessionTooLong))
    ↔ ((x.limits.session ≤ length bytes)
    × ((i : ℕ) → i < x.limits.session → refusal_at (stream x) (take i bytes) ≡ None)
    × IsTooLong x (take x.limits.session bytes) from)

-- a stream is cut off exactly where nothing of it is refused, it isn't over and not a lone Ack that
-- is enough
abbrev pub CutOffUnrefused : Type 0
CutOffUnrefused = (x : Settings) (bytes : List ℕ) (from : ℕ)
    → (offence_by (stream x) bytes ≡ Some (offence_at from Truncated))
    ↔ (((i : ℕ) → i ≤ length bytes → refusal_at (stream x) (take i bytes) ≡ None)
    × IsCutOff x bytes from)
