-- What holds of payloads by their definitions alone.
use Rattle.std.specs.Prelude.{◌≡◌, ℕ, ◌<◌, ◌≤◌, ◌⊎◌, ◌↔◌, List, [], ◌++◌, length, take, IsSome}
use Rattle.std.specs.Prelude.{Some, None, Ok}
use Rattle.unit_streams.specs.Judging.{answer, ending_at, goes_on, offence, offends, refusal_at}
use Rattle.string_tables.specs.{SessionStrings.used_cost, StringTable.StringTable}
use Rattle.{multibyte_ints.specs.Integer.IsBytes, nbfx_values.specs.Positions.position_of}
use Rattle.nbfx_values.specs.declared.{content.Item.Item, session.Kind.Kind}
use Rattle.nbfx_values.specs.declared.refusals.Reason.{Reason, TheVariants.DocumentCut}
use Rattle.nbfx_records.specs.Payloads.{IsAdmitted, IsPayload, IsWithin}
use Rattle.nbfx_decoder.specs.Bounds.{KeepsWithin, NamesTexts}
use Rattle.nbfx_decoder.specs.DecoderState.{FinishAnswers, from_of, situation_of}
use Rattle.nbfx_decoder.specs.Payload.{payload, refusal, Settings, table_in}
use Rattle.nbfx_decoder.specs.Reasons.{IsCutAt, ShowsFrom}

-- as a whole payload the bytes have no offence: behind them stand these items, and these strings
-- behind those of before
pub record IsDecoded (x : Settings) (strings : List (List ℕ)) (bytes : List ℕ) (items : List Item)
    (own : List (List ℕ)) : Type 0 where
  pub offenceless : offence (payload x strings) bytes ≡ None
  pub items_are : (situation_of x strings bytes).items ≡ items
  pub strings_are : (situation_of x strings bytes).strings ≡ strings ++ own

-- what is admitted before a payload: a root, and the strings so far
pub record MayBegin (x : Settings) (strings : List (List ℕ)) : Type 0 where
  pub depth : 0 < x.limits.depth
  pub dictionary : used_cost strings ≤ x.limits.dictionary

-- the table that a payload's identifiers are read by, but for its own strings
abbrev pub table_before : Settings → List (List ℕ) → StringTable
table_before x strings = record { statics = x.statics; strings = strings }

-- the bytes that have no offence are the payloads, of what is admitted
abbrev pub PayloadsAreAccepted : Type 0
PayloadsAreAccepted = (x : Settings) (strings : List (List ℕ)) (bytes : List ℕ)
    (items : List Item) (own : List (List ℕ)) → MayBegin x strings
    → IsDecoded x strings bytes items own
    ↔ (IsPayload x.kind (table_before x strings) own items bytes
    × IsAdmitted x.limits items (strings ++ own))

-- bytes are a payload of one document at most, and leave one table at most
abbrev pub SpellsOneDocument : Type 0
SpellsOneDocument = (kind : Kind) (table : StringTable) (own others : List (List ℕ))
    (items more : List Item) (bytes : List ℕ)
    → IsPayload kind table own items bytes → IsPayload kind table others more bytes
    → (own ≡ others) × (items ≡ more)

-- however far a payload has come, what it has brought is within bounds
abbrev pub SituationsKeepWithin : Type 0
SituationsKeepWithin = (x : Settings) (strings : List (List ℕ)) (p : List ℕ)
    → KeepsWithin x.limits strings (situation_of x strings p) (from_of x strings p)

-- and is the front of a document, where what identifiers name is text
abbrev pub SituationsAreFronts : Type 0
SituationsAreFronts = (x : Settings) (strings : List (List ℕ)) (p : List ℕ)
    → NamesTexts (table_before x strings) → IsBytes p
    → IsSome (position_of (situation_of x strings p).items)

-- which it is then too behind the strings of the payload
abbrev pub StringsStayTexts : Type 0
StringsStayTexts = (x : Settings) (strings : List (List ℕ)) (p : List ℕ)
    → NamesTexts (table_before x strings) → IsBytes p
    → NamesTexts (table_in x (situation_of x strings p))

-- bytes of a payload are refused for a reason exactly where they show it
abbrev pub RefusedWhereShown : Type 0
RefusedWhereShown = (x : Settings) (strings : List (List ℕ)) (p : List ℕ) (from : ℕ)
    (reason : Reason)
    → (refusal_at (payload x strings) p ≡ Some (refusal from reason))
    ↔ ShowsFrom x strings p from reason

-- the end of a payload is refused exactly where its root hasn't ended
abbrev pub CutWhereUnended : Type 0
CutWhereUnended = (x : Settings) (strings : List (List ℕ)) (p : List ℕ) (from : ℕ)
    (reason : Reason)
    → (ending_at (payload x strings) p ≡ Some (refusal from reason))
    ↔ ((reason ≡ DocumentCut) × IsCutAt x strings p from)

-- nothing refuses these bytes
abbrev pub ShowsNothing : Settings → List (List ℕ) → List ℕ → Type 0
ShowsNothing x strings p = (at : ℕ) (other : Reason) → ShowsFrom x strings p at other → ⊥

-- some of the first bytes of a payload show this, and no fewer show anything
pub record ShowsFirst (x : Settings) (strings : List (List ℕ)) (bytes : List ℕ) (from : ℕ)
    (reason : Reason) : Type 0 where
  pub place : ℕ
  pub within : place ≤ length bytes
  pub before : (i : ℕ) → i < place → ShowsNothing x strings (take i bytes)
  pub shows : ShowsFrom x strings (take place bytes) from reason

-- no first bytes show anything, and the root hasn't ended
pub record EndsUnended (x : Settings) (strings : List (List ℕ)) (bytes : List ℕ)
    (from : ℕ) : Type 0 where
  pub nothing : (i : ℕ) → i ≤ length bytes → ShowsNothing x strings (take i bytes)
  pub cut : IsCutAt x strings bytes from

-- a whole payload is refused for the first reason that is shown, or else because its root hasn't
-- ended
abbrev pub FirstReasonRefuses : Type 0
FirstReasonRefuses = (x : Settings) (strings : List (List ℕ)) (bytes : List ℕ) (from : ℕ)
    (reason : Reason)
    → (offence (payload x strings) bytes ≡ Some (refusal from reason))
    ↔ (ShowsFirst x strings bytes from reason
    ⊎ ((reason ≡ DocumentCut) × EndsUnended x strings bytes from))

-- behind p, so many bytes of y show this, and no fewer show anything
pub record ShowsWithin (x : Settings) (strings : List (List ℕ)) (p y : List ℕ) (n from : ℕ)
    (reason : Reason) : Type 0 where
  pub within : n ≤ length y
  pub before : (i : ℕ) → i < n → ShowsNothing x strings (p ++ take i y)
  pub shows : ShowsFrom x strings (p ++ take n y) from reason

-- a piece is refused just so, and goes on where no bytes of it show anything
abbrev pub OffendsWhereShown : Type 0
OffendsWhereShown = (x : Settings) (strings : List (List ℕ)) (p y : List ℕ) (n from : ℕ)
    (reason : Reason)
    → (answer (payload x strings) p y ≡ offends n (refusal from reason))
    ↔ ShowsWithin x strings p y n from reason

abbrev pub GoesOnWhereNothing : Type 0
GoesOnWhereNothing = (x : Settings) (strings : List (List ℕ)) (p y : List ℕ)
    → (answer (payload x strings) p y ≡ goes_on)
    ↔ ((i : ℕ) → i ≤ length y → ShowsNothing x strings (p ++ take i y))

-- no first bytes of p show anything
abbrev pub IsUnrefused : Settings → List (List ℕ) → List ℕ → Type 0
IsUnrefused x strings p = (i : ℕ) → ShowsNothing x strings (take i p)

-- which is so before the first byte, and stays so with each piece that goes on
abbrev pub NothingIsRefused : Type 0
NothingIsRefused = (x : Settings) (strings : List (List ℕ)) → IsUnrefused x strings []

abbrev pub GoesOnUnrefused : Type 0
GoesOnUnrefused = (x : Settings) (strings : List (List ℕ)) (p y : List ℕ) → IsUnrefused x strings p
    → answer (payload x strings) p y ≡ goes_on → IsUnrefused x strings (p ++ y)

-- the bytes are a payload of these items, with these strings of its own, within what is admitted
pub record IsWholePayload (x : Settings) (strings own : List (List ℕ)) (items : List Item)
    (p : List ℕ) : Type 0 where
  pub is_payload : IsPayload x.kind (table_before x strings) own items p
  pub within : IsWithin x.limits items p (strings ++ own)

-- then the end is answered by a document exactly where the bytes are its payload
abbrev pub FinishedWhereWhole : Type 0
FinishedWhereWhole = (x : Settings) (strings : List (List ℕ)) (p : List ℕ) (doc : List Item)
    → MayBegin x strings → IsUnrefused x strings p → length p ≤ x.limits.payload
    → FinishAnswers x strings p (Ok doc)
    ↔ ((own : List (List ℕ)) × IsWholePayload x strings own doc p)
