-- What a writer of payloads is set to, and what its identifiers name.
use Rattle.std.specs.Prelude.{◌≡◌, ℕ, List, ◌++◌, length, take, Ok, Err, Result, ⊤}
use Rattle.{string_tables.specs.StringTable.StringTable, session_dictionary.specs.Marks.IsMarkOf}
use Rattle.nbfx_values.specs.{declared.session.Kind.Kind, Limits.Limits, QuotasOf.limits_of}
use Rattle.nbfx_encoder.specs.declared.encoder.{Encoder.Encoder, Prepared.Prepared}
use Rattle.nbfx_encoder.specs.{declared.faults.EncodeFault.EncodeFault, Refusals.told}
use Rattle.nbfx_encoder.specs.{Inside.names_of, Placing.Placed, Spelling.Unfit}
use Rattle.nbfx_encoder.specs.declared.faults.EncodeFault.TheVariants as faults

-- its quotas, and whether its payloads bring strings
unfoldable pub limits_in : Encoder → Limits
limits_in e = limits_of e.quotas

unfoldable pub kind_in : Encoder → Kind
kind_in e = e.speller.kind

-- the static strings, and those of the session so far
unfoldable pub names_in : Encoder → StringTable
names_in e = names_of e.speller

-- a payload was appended, and its strings are those of the session now
pub record Writes (answer : Result (Placed (List ℕ)) Unfit) (old new : List ℕ)
    (behind : StringTable)
    : Type 0 where
  pub payload : Placed (List ℕ)
  pub answer_is : answer ≡ Ok payload
  pub table : behind ≡ payload.1
  pub written : new ≡ old ++ payload.0

-- a document was refused so
abbrev pub Refuses : Result (Placed (List ℕ)) Unfit → EncodeFault → Type 0
Refuses answer faults.Memory = ⊤
Refuses (Ok payload) fault = ⊥
Refuses (Err unfit) fault = fault ≡ told unfit

-- the bytes of the payload that its rooms hold
unfoldable pub payload_in : Encoder → List ℕ
payload_in e = e.head.items ++ (e.strings.items ++ e.speller.nodes.items)

-- where a document was prepared to be written: its payload is in the rooms, and the session's
-- strings
-- are those behind it, which can be taken back
pub record HasPrepared (answer : Result (Placed (List ℕ)) Unfit) (prepared : Prepared)
    (old new : Encoder) : Type 0 where
  pub payload : Placed (List ℕ)
  pub answer_is : answer ≡ Ok payload
  pub table : names_in new ≡ payload.1
  pub bytes : payload_in new ≡ payload.0
  pub size : prepared.size ≡ length payload.0
  pub mark : IsMarkOf prepared.mark (names_in new).strings
  pub back : take prepared.mark.count (names_in new).strings ≡ (names_in old).strings

-- what a call leaves of what a writer is set to
pub record KeepsSettings (old new : Encoder) : Type 0 where
  pub limits : limits_in new ≡ limits_in old
  pub kind : kind_in new ≡ kind_in old
  pub statics : (names_in new).statics ≡ (names_in old).statics
