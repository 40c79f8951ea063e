-- What the command that calls a peer leaves, by how that ended.
use Rattle.std.specs.Prelude.{◌≡◌, ℕ, ◌⊎◌, List, [], ◌++◌, take, Some, None, Ok, Err, codes}
use Rattle.std.specs.Prelude.{Option, Result}
use Rattle.io_edges.specs.{Faults.Rose, Store.Store, Wires.Network}
use Rattle.{string_tables.specs.StaticStrings.Entry, command_words.specs.Requests.TwoLimits}
use Rattle.command_words.specs.Tasks.{Opening}
use Rattle.nbfx_values.specs.declared.content.Item.{Item}
use Rattle.stream_loop.specs.{declared.reporting.ReportEnding.ReportEnding, Edges.Input}
use Rattle.stream_loop.specs.declared.reporting.ReportEnding.TheVariants.{Judged, Memory, ReadFault}
use Rattle.document_lines.specs.declared.InputFault.{InputFault, TheVariants.Line}
use Rattle.document_lines.specs.declared.{fetching.DocumentsFault.DocumentsFault}
use Rattle.document_lines.specs.declared.{reading.ListFault.ListFault}
use Rattle.document_lines.specs.{Files.Answers, Taking.TakesDocuments}
use Rattle.two_lanes.specs.{declared.jobs.Lane.Lane, Merges.AreAll, Merges.merge}
use Rattle.client.specs.{declared.called.Called.Called, Sent.Sending, Sent.sending}
use Rattle.client.specs.{Places.CallsPlace, Statuses.fault_of, Statuses.status_of, Tags.sent_line}
use Rattle.dump_replay.specs.{declared.calling.UnreadDocuments.UnreadDocuments, Running.note_of}
use Rattle.dump_replay.specs.Building.{input_note, line_note, note_of_building, status_of_building}
use Rattle.dump_replay.specs.Outside.{Outside, SeenShelf}
use Rattle.io_edges.specs.Views.{SinkView}
use Rattle.document_lines.specs.declared.fetching.DocumentsFault.TheVariants as files
use Rattle.document_lines.specs.declared.reading.ListFault.TheVariants as lists

-- ---- statuses and notes

-- a list of documents that isn't read, as the writing of a session ends where its input isn't
abbrev pub ending_of_list : ListFault → ReportEnding InputFault
ending_of_list (lists.Refused fault) = Judged (Some fault)
ending_of_list lists.ReadFault = ReadFault
ending_of_list lists.Memory = Memory

-- the status of a run in which the file of the second list isn't read
abbrev pub status_of_documents : DocumentsFault → ℕ
status_of_documents files.Missing = 6
status_of_documents (files.Refused fault) = 6
status_of_documents files.Failed = 3
status_of_documents files.Memory = 5

-- the note of a file that is refused, which it is for a line alone
abbrev pub refused_note : (name : List ℕ) → InputFault → List ℕ
refused_note name (Line n kind) = line_note name n kind
refused_note name fault = input_note fault

-- and the note of any
abbrev pub note_of_documents : (name : List ℕ) → DocumentsFault → List ℕ
note_of_documents name files.Missing = name ++ codes ": not found\n"
note_of_documents name (files.Refused fault) = refused_note name fault
note_of_documents name files.Failed = note_of 3
note_of_documents name files.Memory = note_of 5

-- by the fault of the documents, where one is the cause of the status
abbrev pub note_by : Option InputFault → (status : ℕ) → List ℕ
note_by (Some fault) status = input_note fault
note_by None status = note_of status

-- the note of a run in which a place was called so
abbrev pub note_of_called : Called → List ℕ
note_of_called called = note_by (fault_of called) (status_of called)

-- ---- what is left

-- how documents are sent on a session that is opened so, with these static strings and limits
abbrev pub sending_on : Opening → List Entry → TwoLimits → List (List Item) → Sending
sending_on opening statics limits documents =
    sending limits.forward limits.back statics opening.mode opening.encoding documents

-- the second list: none, or what the file with this name says
abbrev pub IsSecond : Option Store → Option (List ℕ) → List (List Item) → Type 0
IsSecond stored None second = second ≡ []
IsSecond stored (Some name) second = Answers stored name (Ok second)

-- the file of the second list isn't read since the fetch failed
abbrev pub HasFailedSecond : Result (List (List Item)) UnreadDocuments → Type 0
HasFailedSecond (Ok second) = ⊥
HasFailedSecond (Err unread) = unread.fault ≡ files.Failed

module _ (Says : List ℕ → Type 0) where
  -- the file of the second list isn't read, with the status and the note of why, and nothing else
  -- is read or written
  pub record UnreadSecond (Untouched : Type 0) (name : List ℕ) (old new : SeenShelf) (status : ℕ)
      : Type 0 where
    pub fault : DocumentsFault
    pub answers : Answers old.files name (Err fault)
    pub rose : fault ≡ files.Failed → Rose old.faults new.faults
    pub status_is : status ≡ status_of_documents fault
    pub says : Says (note_of_documents name fault)
    pub untouched : Untouched

  -- the file that is named isn't read
  abbrev pub HasNoSecond : (Untouched : Type 0) → (named : Option (List ℕ)) → (old new : SeenShelf)
      → ℕ → Type 0
  HasNoSecond Untouched named old new status = (name : List ℕ) × (named ≡ Some name)
      × UnreadSecond Untouched name old new status

  module _ (limits : TwoLimits) (i i' : Input) (o o' : SinkView) (status : ℕ) where
    -- the documents of the input aren't read, with the status and the note of why, and no
    -- connection is asked for; Same is known of the wire then
    pub record TookNone (Same : Type 0) : Type 0 where
      pub fault : ListFault
      pub taken : TakesDocuments limits.forward.session i i' (Err fault)
      pub status_is : status ≡ status_of_building (ending_of_list fault)
      pub says : Says (note_of_building (ending_of_list fault))
      pub unwritten : o' ≡ o
      pub same : Same

    module _ {R K : Type 0} (reader : R → Input) (writer : K → SinkView) (opening : Opening)
        (statics : List Entry) (second : List (List Item)) (n n' : Network R K) where
      -- The place was called with the documents of the input and those of the second list, in an
      -- order in which those of each list come in order, with the status and the note of what
      -- became of it. The line of what was sent has the letters of that order.
      pub record CalledPlace : Type 0 where
        pub first : List (List Item)
        pub taken : TakesDocuments limits.forward.session i i' (Ok first)
        pub called : Called
        pub order : List Lane
        pub all : AreAll first second order
        pub calls : CallsPlace reader writer
            (sending_on opening statics limits (merge first second order)) opening.via
            (λ sent. sent_line (take sent order)) n n' o o' called
        pub status_is : status ≡ status_of called
        pub says : Says (note_of_called called)

      -- one or the other
      abbrev pub CalledOrNot : Type 0
      CalledOrNot = CalledPlace ⊎ TookNone (n' ≡ n)

  -- A peer was called, or the documents of the input aren't read, where the second list is.
  pub record CalledFor (stored : Option Store) (named : Option (List ℕ)) (limits : TwoLimits)
      (i i' : Input) (o o' : SinkView) (status : ℕ) {R K : Type 0} (reader : R → Input)
      (writer : K → SinkView) (opening : Opening) (statics : List Entry) (n n' : Network R K)
      : Type 0 where
    pub second : List (List Item)
    pub read : IsSecond stored named second
    pub does : CalledOrNot limits i i' o o' status reader writer opening statics second n n'

  abbrev pub CalledWith : {R K : Type 0} → (R → Input) → (K → SinkView) → Opening
      → (named : Option (List ℕ)) → List Entry → TwoLimits → (old new : Outside R K) → ℕ → Type 0
  CalledWith reader writer opening named statics limits old new status =
      CalledFor old.shelf.files named limits old.input new.input old.output new.output status
      reader writer opening statics old.wire new.wire
