-- What holds of lines of documents by the definitions alone.
use Rattle.std.specs.Prelude.{◌≡◌, ℕ, ◌+◌, ◌<◌, ◌≤◌, true, false, List, [], ◌∷◌, ◌++◌, length, take}
use Rattle.std.specs.Prelude.{Some, None, Ok, Err, Option}
use Rattle.unit_streams.specs.{Going.IsPending, Judging.offence, Judging.refusal_at}
use Rattle.unit_streams.specs.Tellers.{Closes, report}
use Rattle.{string_tables.specs.StringTable.StringTable, document_lines.specs.Refused.RefusesLine}
use Rattle.nbfx_values.specs.declared.content.Item.{Item}
use Rattle.nbfx_encoder.specs.{declared.faults.EncodeFault.EncodeFault, Refusals.told}
use Rattle.nbfx_encoder.specs.{Envelopes.envelopes_from, Placing.Placed}
use Rattle.nbfx_encoder.specs.Spelling.{encoded, Unfit}
use Rattle.line_notation.specs.declared.reader.LineStep.TheVariants.{Done}
use Rattle.line_notation.specs.LineReaderState.{answer, documents_of, standing}
use Rattle.line_notation.specs.Lines.{AreLinesOf, cut}
use Rattle.document_lines.specs.{declared.InputFault.InputFault, Input.Settings}
use Rattle.document_lines.specs.declared.InputFault.TheVariants.{Line, TooLong, Unfit as DoesNotFit}
use Rattle.document_lines.specs.Input.{envelopes_and_end, is_singleton, lines_of_documents}
use Rattle.nbfx_encoder.specs.declared.faults.EncodeFault.TheVariants as encode

-- no event ends the input, and each line is known by its own bytes
abbrev pub InputIsClosed : Type 0
InputIsClosed = (x : Settings) → Closes (lines_of_documents x) (λ envelope. false)

-- input of no bytes isn't refused
abbrev pub InputMayBegin : Type 0
InputMayBegin = (x : Settings) → 1 ≤ x.limits.session
    → refusal_at (lines_of_documents x) [] ≡ None

-- input that may go on has fewer bytes than the session quota
abbrev pub InputIsBounded : Type 0
InputIsBounded = (x : Settings) (bytes : List ℕ) → IsPending (lines_of_documents x) bytes
    → length bytes < x.limits.session

-- what is written of some input: the envelopes of the documents of its lines, and an End record
pub record IsBuilt (x : Settings) (bytes : List ℕ) : Type 0 where
  pub lines : List (List ℕ)
  pub lines_are : cut bytes ≡ (lines, [])
  pub envelopes : Placed (List ℕ)
  pub all_fit : envelopes_from x.limits x.kind x.mode
      (record { statics = x.statics; strings = [] }) 0 (documents_of lines) ≡ Ok envelopes
  pub written : report (lines_of_documents x) envelopes_and_end bytes ≡ envelopes.0 ++ 7 ∷ []

-- input that isn't refused is lines of documents that fit, and what is written is their envelopes
abbrev pub AcceptedIsBuilt : Type 0
AcceptedIsBuilt = (x : Settings) (bytes : List ℕ)
    → offence (lines_of_documents x) bytes ≡ None → IsBuilt x bytes

-- the next line ends a document that doesn't fit, after lines that have left such a table
pub record EndsUnfit (x : Settings) (lines more : List (List ℕ)) (table : StringTable)
    (why : EncodeFault) : Type 0 where
  pub line : List ℕ
  pub rest : List (List ℕ)
  pub next : more ≡ line ∷ rest
  pub doc : List Item
  pub ends : answer (standing lines) line ≡ Ok (Done doc)
  pub unfit : Unfit
  pub not_fitting : encoded x.limits x.kind table doc ≡ Err unfit
  pub why_is : why ≡ told unfit

-- what is known by why input is refused after these lines, or that it isn't
abbrev pub Explains : Settings → (bytes : List ℕ) → (lines more : List (List ℕ)) → StringTable
    → Option InputFault → Type 0
Explains x bytes lines more table None = (more ≡ []) × ((cut bytes).1 ≡ [])
    × AreLinesOf (documents_of lines) lines
    × (is_singleton x.mode ≡ true → length (documents_of lines) ≡ 1)
Explains x bytes lines more table (Some (Line n kind)) =
    (n ≡ length lines + 1) × RefusesLine x.mode bytes lines more kind
Explains x bytes lines more table (Some (DoesNotFit number why)) =
    (number ≡ length (documents_of lines)) × EndsUnfit x lines more table why
Explains x bytes lines more table (Some TooLong) = (x.limits.session ≤ length bytes)
    × ((cut (take x.limits.session bytes)).0 ≡ lines)

-- What is written of any input: the envelopes of the documents of its first lines, and where
-- nothing is refused an End record. A refusal names the line after them and says why that is
-- refused, or the document that it ends and why that doesn't fit; or it says that there are as many
-- bytes as the session quota, and then no line that ends within so many is refused.
pub record IsWritten (x : Settings) (bytes : List ℕ) : Type 0 where
  pub lines : List (List ℕ)
  pub more : List (List ℕ)
  pub lines_are : (cut bytes).0 ≡ lines ++ more
  pub envelopes : Placed (List ℕ)
  pub all_fit : envelopes_from x.limits x.kind x.mode
      (record { statics = x.statics; strings = [] }) 0 (documents_of lines) ≡ Ok envelopes
  pub written : report (lines_of_documents x) envelopes_and_end bytes
      ≡ envelopes.0 ++ envelopes_and_end.ends tt (offence (lines_of_documents x) bytes)
  pub why : Explains x bytes lines more envelopes.1 (offence (lines_of_documents x) bytes)

-- no document is refused for want of memory
abbrev pub RefusesNoMemory : Type 0
RefusesNoMemory = (x : Settings) (bytes : List ℕ) (number : ℕ)
    → offence (lines_of_documents x) bytes ≡ Some (DoesNotFit number encode.Memory) → ⊥

-- any input is written so
abbrev pub InputIsWritten : Type 0
InputIsWritten = (x : Settings) (bytes : List ℕ) → IsWritten x bytes

-- lines of documents that fit, as many as the mode takes and short enough
pub record MayBeBuilt (x : Settings) (bytes : List ℕ) : Type 0 where
  pub lines : List (List ℕ)
  pub documents : List (List Item)
  pub sent : Placed (List ℕ)
  pub lines_are : cut bytes ≡ (lines, [])
  pub documents_are : AreLinesOf documents lines
  pub all_fit : envelopes_from x.limits x.kind x.mode
      (record { statics = x.statics; strings = [] }) 0 documents ≡ Ok sent
  pub count : is_singleton x.mode ≡ true → length documents ≡ 1
  pub short : length bytes < x.limits.session

-- such input isn't refused
abbrev pub FittingIsAccepted : Type 0
FittingIsAccepted = (x : Settings) (bytes : List ℕ) → MayBeBuilt x bytes
    → offence (lines_of_documents x) bytes ≡ None
