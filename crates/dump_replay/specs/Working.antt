-- What a run leaves, by what its words ask for. `Says` is what is known of the note with a text,
-- `Untouched` that input, output and wire are as before, `Unfetched` that the shelf is, and
-- `Offline` that the wire is. `reader` and `writer` are what is seen of the ends of a connection.
use Rattle.std.specs.Prelude.{◌≡◌, ℕ, ◌≤◌, ◌⊎◌, List, length, Some, Option, ⊤}
use Rattle.io_edges.specs.declared.fault.FileFault.{FileFault, TheVariants.Failed}
use Rattle.io_edges.specs.{Faults.one_more, Faults.Rose, Files.Reading, Files.Tells}
use Rattle.{string_tables.specs.StaticStrings.Entry, nbfx_values.specs.Limits.Limits}
use Rattle.stream_loop.specs.{declared.reporting.ReportEnding.ReportEnding, Edges.Input}
use Rattle.document_lines.specs.declared.InputFault.{InputFault}
use Rattle.command_words.specs.Requests.{AskedOfSessions, IsRequest, of_sessions, rehearsal, TwoLimits}
use Rattle.command_words.specs.Tasks.{Rehearsal, Serving, Task}
use Rattle.command_words.specs.Tasks.{build, call, generate, Opening, pool, relay, replay, report}
use Rattle.command_words.specs.Tasks.{serve}
use Rattle.duplex_server.specs.Responding.{reading_actions}
use Rattle.dump_replay.specs.Answering.{action_kind_name, Answered}
use Rattle.dump_replay.specs.Building.{Builds, note_of_building, status_of_building}
use Rattle.dump_replay.specs.Calling.{CalledWith, HasNoSecond}
use Rattle.dump_replay.specs.{Generating.Generated, Rehearsing.Rehearsed, Reporting.Reports}
use Rattle.dump_replay.specs.{Pooling.PooledAll, Relaying.RelayedAll, Serving.AnsweredAll}
use Rattle.dump_replay.specs.Outside.{Outside, SeenShelf}
use Rattle.dump_replay.specs.Running.{IsStatus, note_of, note_of_file, status_of_file, WhereAsked}
use Rattle.dump_replay.specs.Statics.{reading_statics, settings_for, table_kind_name, UnderFile}
use Rattle.io_edges.specs.Views.{SinkView}

-- a Via that a session is opened with is within its quota, and counts of what is served at once are
-- within their bounds
abbrev pub IsPossible : Task → Type 0
IsPossible (report detail origin) = ⊤
IsPossible (build opening) = length opening.via ≤ 2048
IsPossible (replay serving) = ⊤
IsPossible (serve listen connections serving) = ⊤
IsPossible (call connect opening second) = length opening.via ≤ 2048
IsPossible (relay relaying) = length relaying.via ≤ 2048
IsPossible (pool listen connections sessions serving) =
    ((1 ≤ connections) × (connections ≤ 1024)) × ((1 ≤ sessions) × (sessions ≤ 1024))
IsPossible (generate seed count) = ⊤

-- no task but those that answer connections and make some goes over the wire
abbrev pub WhereOffline : Task → (Offline : Type 0) → Type 0
WhereOffline (serve listen connections serving) Offline = ⊤
WhereOffline (call connect opening second) Offline = ⊤
WhereOffline (relay relaying) Offline = ⊤
WhereOffline (pool listen connections sessions serving) Offline = ⊤
WhereOffline task Offline = Offline

-- what is known of any task: its status, how many takes of the input gave nothing, and which counts
-- of faults rose
pub record Leaves {R K : Type 0} (old new : Outside R K) (status : ℕ) : Type 0 where
  pub is_status : IsStatus status
  pub not_two : status ≡ 2 → ⊥
  pub one_empty_take : (new.input.empty_takes ≡ old.input.empty_takes)
      ⊎ (new.input.empty_takes ≡ one_more old.input.empty_takes)
  pub read_fault : status ≡ 3 → Rose old.input.faults new.input.faults
      ⊎ Rose old.shelf.faults new.shelf.faults
  pub write_fault : status ≡ 4 → Rose old.output.faults new.output.faults
  pub reads : old.input.faults ≤ new.input.faults
  pub writes : old.output.faults ≤ new.output.faults

-- the words are no request, or memory ran out while they were read
abbrev pub AreNotRead : List (List ℕ) → ℕ → Type 0
AreNotRead words status = ((status ≡ 2) × WhereAsked words (λ asked. ⊥)) ⊎ (status ≡ 5)

module _ (Says : List ℕ → Type 0) where
  -- documents were written so, with the status and the note of how that ended
  pub record Built (opening : Opening) (statics : List Entry) (limits : Limits) (i i' : Input)
      (o o' : SinkView) (status : ℕ) : Type 0 where
    pub ending : ReportEnding InputFault
    pub status_is : status ≡ status_of_building ending
    pub builds : Builds opening statics limits i i' o o' ending
    pub says : Says (note_of_building ending)

  module _ (Untouched : Type 0) where
    module _ {X K : Type 0} (reading : Reading X K) (kind_name : K → List ℕ) where
      -- a file that is named isn't read, with the status and the note of why, and nothing else is
      -- read or written
      pub record Unread (name : List ℕ) (old new : SeenShelf) (status : ℕ) : Type 0 where
        pub fault : FileFault K
        pub tells : Tells reading old.files name fault
        pub rose : fault ≡ Failed → Rose old.faults new.faults
        pub status_is : status ≡ status_of_file fault
        pub says : Says (note_of_file kind_name name fault)
        pub untouched : Untouched

    -- the file of actions that is named isn't read
    abbrev pub HasNoActions : Serving → (old new : SeenShelf) → ℕ → Type 0
    HasNoActions serving old new status = (name : List ℕ) × (serving.actions ≡ Some name)
        × Unread reading_actions action_kind_name name old new status

    -- the file of static strings of the sessions that are opened isn't read
    abbrev pub HasNoBack : Option (List ℕ) → (old new : SeenShelf) → ℕ → Type 0
    HasNoBack named old new status = (name : List ℕ) × (named ≡ Some name)
        × Unread reading_statics table_kind_name name old new status

  module _ (Untouched : Type 0) {R K : Type 0} (reader : R → Input) (writer : K → SinkView) where
    -- what each task leaves, with these static strings
    abbrev pub Works : Task → List Entry → TwoLimits → (old new : Outside R K) → ℕ → Type 0
    Works (report detail origin) statics limits old new status =
        Reports detail (settings_for origin statics limits) old.input new.input old.output
        new.output status × Says (note_of status)
    Works (build opening) statics limits old new status =
        Built opening statics limits.forward old.input new.input old.output new.output status
    Works (replay serving) statics limits old new status =
        Answered Says old.shelf.files serving statics limits old.input new.input old.output
        new.output status ⊎ HasNoActions Untouched serving old.shelf new.shelf status
    Works (serve listen connections serving) statics limits old new status =
        AnsweredAll Says reader writer connections serving statics limits old new status
        ⊎ HasNoActions Untouched serving old.shelf new.shelf status
    Works (call connect opening second) statics limits old new status =
        CalledWith Says reader writer opening second statics limits old new status
        ⊎ HasNoSecond Says Untouched second old.shelf new.shelf status
    Works (relay relaying) statics limits old new status =
        RelayedAll Says reader writer relaying statics limits old new status
        ⊎ HasNoBack Untouched relaying.back_statics old.shelf new.shelf status
    Works (pool listen connections sessions serving) statics limits old new status =
        PooledAll Says reader writer connections sessions serving statics limits old new status
        ⊎ HasNoActions Untouched serving old.shelf new.shelf status
    Works (generate seed count) statics limits old new status =
        Generated Says seed count statics limits.forward old.output new.output status
        × (new.input ≡ old.input)

    -- what is left of a request on sessions: the file of static strings isn't read, or the task is
    -- done
    abbrev pub Does : (Offline : Type 0) → AskedOfSessions → (old new : Outside R K) → ℕ → Type 0
    Does Offline asked old new status =
        Unread Untouched reading_statics table_kind_name asked.statics old.shelf new.shelf status
        ⊎ UnderFile old.shelf.files asked
        (λ entries. Works asked.task entries asked.limits old new status
        × WhereOffline asked.task Offline)

    -- and of any words
    abbrev pub Runs : (Unfetched Offline : Type 0) → List (List ℕ) → (old new : Outside R K) → ℕ
        → Type 0
    Runs Unfetched Offline words old new status =
        (AreNotRead words status × Says (note_of status) × Untouched × Unfetched)
        ⊎ ((asked : AskedOfSessions) × IsRequest words (of_sessions asked)
        × Does Offline asked old new status)
        ⊎ ((asked : Rehearsal) × IsRequest words (rehearsal asked)
        × Rehearsed Says asked old.input new.input old.output new.output status
        × Unfetched × Offline)
