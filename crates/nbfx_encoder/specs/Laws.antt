-- What holds of the chosen spelling by the definitions alone.
use Rattle.std.specs.Prelude.{◌≡◌, ℕ, ◌+◌, ◌≤◌, false, ◌↔◌, List, [], ◌∷◌, ◌++◌, length, Ok, Err}
use Rattle.string_tables.specs.{SessionStrings.used_cost, StringTable.StringTable}
use Rattle.{string_tables.specs.StaticStrings.IsStaticMap, least_payloads.specs.Least.may_fit}
use Rattle.nbfx_values.specs.declared.{content.Item.Item, session.Kind.Kind, session.Mode.Mode}
use Rattle.nbfx_values.specs.{Documents.IsDocument, Limits.IsGood, Limits.Limits}
use Rattle.nbfx_encoder.specs.Envelopes.{behind_bytes, envelope_then, envelopes_from}
use Rattle.nbfx_encoder.specs.{Placing.Placed, ReadBack.AdmitsAsMuch, ReadBack.IsRead}
use Rattle.nbfx_encoder.specs.Spelling.{encoded, Fits, Unfit}

-- What is written of a document that fits is a payload of it, within the limits of any reader that
-- admits as much, and leaves the table that was chosen.
abbrev pub ChosenIsPayload : Type 0
ChosenIsPayload = (writer reader : Limits) (kind : Kind) (table : StringTable) (items : List Item)
    → IsGood writer → AdmitsAsMuch reader writer → IsStaticMap table.statics
    → used_cost table.strings ≤ writer.dictionary → IsDocument items
    → (fits : Fits writer kind table items)
    → IsRead reader kind table items fits.payload.0 fits.payload.1

-- a document is written exactly where it fits, and then as that says
abbrev pub WritesWhatFits : Type 0
WritesWhatFits = (limits : Limits) (kind : Kind) (table : StringTable) (items : List Item)
    (payload : Placed (List ℕ))
    → (encoded limits kind table items ≡ Ok payload)
    ↔ ((fits : Fits limits kind table items) × (fits.payload ≡ payload))

-- What has more content than the limits admit, or more bytes in any payload, isn't written,
-- whatever the strings so far.
abbrev pub LargeIsUnwritten : Type 0
LargeIsUnwritten = (limits : Limits) (kind : Kind) (table : StringTable) (items : List Item)
    → may_fit limits items ≡ false → (why : Unfit) × (encoded limits kind table items ≡ Err why)

-- a document more is one envelope more, under the strings that those before have left
abbrev pub SendsOneMore : Type 0
SendsOneMore = (limits : Limits) (kind : Kind) (mode : Mode) (table behind : StringTable)
    (number : ℕ) (documents : List (List Item)) (document : List Item) (bytes : List ℕ)
    → envelopes_from limits kind mode table number documents ≡ Ok (bytes, behind)
    → envelopes_from limits kind mode table number (documents ++ document ∷ [])
    ≡ behind_bytes bytes (envelope_then mode (number + length documents)
    (encoded limits kind behind document) (λ last. Ok ([], last)))
