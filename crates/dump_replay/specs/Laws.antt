-- What holds of sessions that are written of documents, by the definitions alone.
use Rattle.std.specs.Prelude.{◌≡◌, ℕ, ◌≤◌, true, ◌⊎◌, List, [], ◌++◌, map, length, Some, None}
use Rattle.std.specs.Prelude.{IsUtf8, Option, flat_map}
use Rattle.{io_edges.specs.Faults.Rose, nbfx_encoder.specs.ReadBack.AdmitsAsMuch}
use Rattle.unit_streams.specs.{Judging.offence, Tellers.report as report_by}
use Rattle.string_tables.specs.StaticStrings.{Entry, IsStaticMap}
use Rattle.nbfx_values.specs.{declared.content.Item.Item, Limits.IsGood, Limits.Limits}
use Rattle.stream_reader.specs.Sessions.{Carried, conversation, IsSession, session_events}
use Rattle.stream_reader.specs.Stream.{initiators, serves, Settings}
use Rattle.stream_loop.specs.declared.reporting.ReportEnding.{ReportEnding, TheVariants.Judged}
use Rattle.stream_loop.specs.Edges.{Input}
use Rattle.session_report.specs.Report.{report, told_of}
use Rattle.line_notation.specs.Lines.{AreLinesOf, cut}
use Rattle.document_lines.specs.declared.InputFault.{InputFault, TheVariants.Unfit}
use Rattle.document_lines.specs.Input.{envelopes_and_end, lines_of_documents}
use Rattle.command_words.specs.{declared.task.Detail.Detail, Tasks.Opening}
use Rattle.dump_replay.specs.Building.{Builds, kind_of, preamble_of, settings_for_building}
use Rattle.dump_replay.specs.Building.{status_of_building, status_of_input_fault}
use Rattle.io_edges.specs.Views.{SinkView}
use Rattle.nbfx_encoder.specs.declared.faults.EncodeFault.TheVariants as encode

module _ (opening : Opening) (statics : List Entry) (limits : Limits) where
  -- why the input is refused, if it is
  abbrev pub input_offence : List ℕ → Option InputFault
  input_offence bytes =
      offence (lines_of_documents (settings_for_building opening statics limits)) bytes

  -- what is written of it: the preamble, the envelopes before a refusal, and without one an End
  abbrev pub session_of : List ℕ → List ℕ
  session_of bytes = preamble_of opening
      ++ report_by (lines_of_documents (settings_for_building opening statics limits))
      envelopes_and_end bytes

  -- whoever reads that session as an initiator's, with the same static strings and quotas as great,
  -- of which that of a session admits its bytes
  pub record ReadsAsMuch (x : Settings) (bytes : List ℕ) : Type 0 where
    pub endpoint : Option (List ℕ)
    pub side : x.side ≡ initiators endpoint
    pub served : serves x.side opening.via ≡ true
    pub good : IsGood x.limits
    pub statics_are : x.statics ≡ statics
    pub admits : AdmitsAsMuch x.limits limits
    pub via : length opening.via ≤ x.limits.via
    pub session : length (session_of bytes) ≤ x.limits.session

  -- the bytes are a session of just these documents, and its report is that of these
  pub record IsSessionOf (x : Settings) (documents : List (List Item)) (bytes : List ℕ)
      : Type 0 where
    pub carried : List Carried
    pub documents_are : map (λ (one : Carried). one.items) carried ≡ documents
    pub is_session : IsSession x (conversation opening.mode (kind_of opening) opening.via carried)
        bytes
    pub reported : (d : Detail) → report d x bytes ≡ flat_map (told_of d)
        (session_events (conversation opening.mode (kind_of opening) opening.via carried)
        (length bytes))

  -- the input is lines of documents, and what is written of it is such a session of them
  pub record IsBuiltOf (x : Settings) (bytes : List ℕ) : Type 0 where
    pub lines : List (List ℕ)
    pub documents : List (List Item)
    pub lines_are : cut bytes ≡ (lines, [])
    pub documents_are : AreLinesOf documents lines
    pub is_session : IsSessionOf x documents (session_of bytes)

-- What is written of input that isn't refused is a session of its documents, for whoever admits as
-- much, and its report shows them.
abbrev pub BuiltAreSessions : Type 0
BuiltAreSessions = (opening : Opening) (statics : List Entry) (limits : Limits) (x : Settings)
    (bytes : List ℕ) → IsGood limits → IsStaticMap statics → IsUtf8 opening.via
    → ReadsAsMuch opening statics limits x bytes
    → input_offence opening statics limits bytes ≡ None
    → IsBuiltOf opening statics limits x bytes

-- the status of a run that has read all of the input, or met a refusal
abbrev pub status_of_input : Option InputFault → ℕ
status_of_input None = 0
status_of_input (Some fault) = status_of_input_fault fault

-- a session was written of all of this input, and nothing of the outside failed or wanted memory
pub record IsBuiltWell (opening : Opening) (statics : List Entry) (limits : Limits)
    (bytes : List ℕ) (o o' : SinkView) (status : ℕ) : Type 0 where
  pub status_is : status ≡ status_of_input (input_offence opening statics limits bytes)
  pub written : (w : List ℕ) → o.written ≡ Some w
      → o'.written ≡ Some (w ++ o.held ++ session_of opening statics limits bytes)

-- Where no count of faults rose, the status is that of the input, and all that is written of it is
-- written; or it is 5, for want of memory.
abbrev pub BuildsAreComplete : Type 0
BuildsAreComplete = (opening : Opening) (statics : List Entry) (limits : Limits) (i i' : Input)
    (o o' : SinkView) (ending : ReportEnding InputFault)
    → Builds opening statics limits i i' o o' ending
    → (bytes : List ℕ) → i.left ≡ Some bytes
    → (Rose i.faults i'.faults → ⊥) → (Rose o.faults o'.faults → ⊥)
    → IsBuiltWell opening statics limits bytes o o' (status_of_building ending)
    ⊎ (status_of_building ending ≡ 5)

-- No document is refused for want of memory, of which the status is 5: where 7 is the status, a
-- document is above a quota, or a QName of it gets no identifier.
abbrev pub UnfitHasACause : Type 0
UnfitHasACause = (opening : Opening) (statics : List Entry) (limits : Limits) (i i' : Input)
    (o o' : SinkView) (number : ℕ)
    → Builds opening statics limits i i' o o' (Judged (Some (Unfit number encode.Memory))) → ⊥
