-- Payloads in their envelopes (MC-NMF), one behind the other.
use Rattle.std.specs.Prelude.{ℕ, ◌+◌, List, [], ◌∷◌, ◌++◌, length, Ok, Err, Result}
use Rattle.{string_tables.specs.StringTable.StringTable, nmf_records.specs.Writing.frame_bytes_of}
use Rattle.nbfx_values.specs.{declared.content.Item.Item, Limits.Limits}
use Rattle.nbfx_values.specs.declared.session.{Kind.Kind, Mode.Mode, Mode.TheVariants.Singleton}
use Rattle.nmf_records.specs.declared.frame.Frame.TheVariants.{Chunk, SizedEnvelope}
use Rattle.nmf_records.specs.declared.frame.Frame.TheVariants.{UnsizedEnvelope}
use Rattle.nbfx_encoder.specs.{Placing.Placed, Spelling.encoded, Spelling.Unfit}

-- What stands before a payload of so many bytes, and behind it. In singleton mode it is one chunk.
abbrev pub envelope_head : Mode → ℕ → List ℕ
envelope_head Singleton size = frame_bytes_of UnsizedEnvelope [] ++ frame_bytes_of (Chunk size) []
envelope_head mode size = frame_bytes_of (SizedEnvelope size) []

abbrev pub envelope_end : Mode → List ℕ
envelope_end Singleton = frame_bytes_of (Chunk 0) []
envelope_end mode = []

abbrev pub envelope : Mode → List ℕ → List ℕ
envelope mode payload = envelope_head mode (length payload) ++ (payload ++ envelope_end mode)

-- the first document that doesn't fit, by its number, and why
pub record UnfitAt : Type 0 where
  pub number : ℕ
  pub why : Unfit

-- bytes before those of more envelopes
abbrev pub behind_bytes : List ℕ → Result (Placed (List ℕ)) UnfitAt → Result (Placed (List ℕ))
    UnfitAt
behind_bytes bytes (Ok more) = Ok (bytes ++ more.0, more.1)
behind_bytes bytes (Err unfit) = Err unfit

-- an envelope, and those behind it; or the number of a document that doesn't fit
abbrev pub envelope_then : Mode → ℕ → Result (Placed (List ℕ)) Unfit
    → (StringTable → Result (Placed (List ℕ)) UnfitAt) → Result (Placed (List ℕ)) UnfitAt
envelope_then mode number (Ok payload) rest =
    behind_bytes (envelope mode payload.0) (rest payload.1)
envelope_then mode number (Err why) rest = Err (record { number = number; why = why })

-- the envelopes of documents, the first of which has this number, and the table behind them
abbrev pub envelopes_from : Limits → Kind → Mode → StringTable → ℕ → List (List Item)
    → Result (Placed (List ℕ)) UnfitAt
envelopes_from limits kind mode table number [] = Ok ([], table)
envelopes_from limits kind mode table number (document ∷ documents) =
    envelope_then mode number (encoded limits kind table document)
    (λ behind. envelopes_from limits kind mode behind (number + 1) documents)
