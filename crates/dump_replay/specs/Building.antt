-- What the command that writes documents as an initiator's session leaves, by how it ended.
use Rattle.std.specs.Prelude.{ℕ, List, [], ◌∷◌, ◌++◌, Some, None, codes, decimal, flat_map}
use Rattle.{string_tables.specs.StaticStrings.Entry, nbfx_values.specs.Limits.Limits}
use Rattle.nbfx_values.specs.{declared.session.Kind.Kind, Session.encoding_kind}
use Rattle.nbfx_encoder.specs.declared.faults.EncodeFault.{EncodeFault}
use Rattle.stream_loop.specs.declared.reporting.ReportEnding.{ReportEnding, TheVariants.WriteFault}
use Rattle.stream_loop.specs.declared.reporting.ReportEnding.TheVariants.{Judged, Memory, ReadFault}
use Rattle.stream_loop.specs.{Edges.Input, Reported.EndsAs}
use Rattle.{initiator_machine.specs.Opening.opening_bytes, command_words.specs.Tasks.Opening}
use Rattle.line_notation.specs.declared.reader.LineKind.{LineKind, TheVariants.WrongCount}
use Rattle.line_notation.specs.declared.reader.LineKind.TheVariants.{BadText, Cut, NotALine}
use Rattle.line_notation.specs.declared.reader.LineKind.TheVariants.{OutOfPlace, OutOfRange}
use Rattle.{document_lines.specs.declared.InputFault.InputFault, dump_replay.specs.Running.note_of}
use Rattle.document_lines.specs.declared.InputFault.TheVariants.{Line, TooLong, Unfit}
use Rattle.document_lines.specs.Input.{envelopes_and_end, lines_of_documents, Settings}
use Rattle.io_edges.specs.Views.{SinkView}
use Rattle.nbfx_encoder.specs.declared.faults.EncodeFault.TheVariants as unfit

-- the encoding of the session's envelopes
abbrev pub kind_of : Opening → Kind
kind_of opening = encoding_kind opening.encoding

-- how documents are written, with these static strings and within these quotas
abbrev pub settings_for_building : Opening → List Entry → Limits → Settings
settings_for_building opening statics limits =
    record {
      limits = limits;
      kind = kind_of opening;
      mode = opening.mode;
      statics = statics;
    }

-- the preamble of the session
abbrev pub preamble_of : Opening → List ℕ
preamble_of opening = opening_bytes opening.mode opening.encoding opening.via

-- the output, as if it held the preamble too, which is written first
abbrev pub with_preamble : Opening → SinkView → SinkView
with_preamble opening o = record o { held = o.held ++ preamble_of opening }

-- ---- statuses and notes

abbrev pub status_of_input_fault : InputFault → ℕ
status_of_input_fault (Line n kind) = 6
status_of_input_fault (Unfit number why) = 7
status_of_input_fault TooLong = 10

-- the status of a run that ends so
abbrev pub status_of_building : ReportEnding InputFault → ℕ
status_of_building (Judged None) = 0
status_of_building (Judged (Some fault)) = status_of_input_fault fault
status_of_building ReadFault = 3
status_of_building WriteFault = 4
status_of_building Memory = 5

abbrev pub line_kind_name : LineKind → List ℕ
line_kind_name NotALine = codes "NotALine"
line_kind_name BadText = codes "BadText"
line_kind_name OutOfRange = codes "OutOfRange"
line_kind_name OutOfPlace = codes "OutOfPlace"
line_kind_name Cut = codes "Cut"
line_kind_name WrongCount = codes "WrongCount"

-- why a document doesn't fit, with the number that says so
abbrev pub unfit_words : EncodeFault → List (List ℕ)
unfit_words (unfit.TooDeep depth) = codes "depth " ∷ decimal depth ∷ []
unfit_words (unfit.TooMuchContent size) = codes "content " ∷ decimal size ∷ []
unfit_words (unfit.NoIdForQName item) = codes "qname at item " ∷ decimal item ∷ []
unfit_words (unfit.TooLarge size) = codes "payload " ∷ decimal size ∷ []
unfit_words unfit.Memory = []

-- texts, one right behind the other
abbrev pub joined : List (List ℕ) → List ℕ
joined = flat_map (λ text. text)

-- the note of a line that is refused, of the input or of the file with this name
abbrev pub line_note : (name : List ℕ) → (n : ℕ) → LineKind → List ℕ
line_note name n kind = joined
    (name ∷ codes ": line " ∷ decimal n ∷ codes " " ∷ line_kind_name kind ∷ codes "\n" ∷ [])

-- the note of why documents are refused; a document that there is no memory for is none of these
abbrev pub input_note : InputFault → List ℕ
input_note (Line n kind) = line_note (codes "input") n kind
input_note (Unfit number unfit.Memory) = note_of 5
input_note (Unfit number why) = joined (codes "document " ∷ decimal number
    ∷ codes " does not fit: " ∷ (unfit_words why ++ codes "\n" ∷ []))
input_note TooLong = codes "input too long\n"

-- the note of a run that ends so
abbrev pub note_of_building : ReportEnding InputFault → List ℕ
note_of_building (Judged None) = []
note_of_building (Judged (Some fault)) = input_note fault
note_of_building ReadFault = note_of 3
note_of_building WriteFault = note_of 4
note_of_building Memory = note_of 5

-- what is known of documents that are written so, where that ends so: of all that the input gives,
-- where it tells that; what was read, and that the preamble and the envelopes are written; how
-- many takes of the input gave nothing; and what failed calls left of the counts
abbrev pub Builds : Opening → List Entry → Limits → (i i' : Input) (o o' : SinkView)
    → ReportEnding InputFault → Type 0
Builds opening statics limits i i' o o' ending =
    EndsAs (lines_of_documents (settings_for_building opening statics limits)) envelopes_and_end
    i i' (with_preamble opening o) o' tt ending
