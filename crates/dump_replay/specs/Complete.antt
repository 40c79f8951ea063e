-- The status of a run in which no I/O error occurs and memory suffices: it is determined by what
-- the words ask for, the files on the shelf, the input, what the peer of a call sends, and the order
-- in which the documents of a call's two lists are sent.
use Rattle.std.specs.Prelude.{◌≡◌, ℕ, ◌⊎◌, List, [], ◌∷◌, ◌++◌, drop, length, if◌then◌else◌, ◌==◌}
use Rattle.std.specs.Prelude.{Some, None, Ok, Err, Option, Result, ⊤}
use Rattle.io_edges.specs.{Faults.Rose, Store.Store, Wires.Network}
use Rattle.io_edges.specs.Files.{bad, file_in, missing, Reading, ShelfFile, whole}
use Rattle.{string_tables.specs.StaticStrings.Entry, stream_loop.specs.Edges.Input}
use Rattle.nbfx_values.specs.{declared.content.Item.Item, Limits.Limits}
use Rattle.nbfx_values.specs.declared.session.Mode.{Mode, TheVariants.Singleton}
use Rattle.nbfx_encoder.specs.{Envelopes.UnfitAt, Placing.Placed}
use Rattle.{stream_reader.specs.Judging.offence, document_lines.specs.Documents.documents_within}
use Rattle.stream_reader.specs.Stream.{any_initiators, initiators, Settings}
use Rattle.session_report.specs.{declared.reporter.Outcome.TheVariants.Ended, Report.outcome}
use Rattle.document_lines.specs.{declared.InputFault.InputFault, Files.read_of}
use Rattle.command_words.specs.declared.task.Detail.{Detail, TheVariants.Whole}
use Rattle.command_words.specs.Requests.{AskedOfSessions, IsRequest, of_sessions, rehearsal, TwoLimits}
use Rattle.command_words.specs.Tasks.{Rehearsal, Serving, Task}
use Rattle.command_words.specs.Tasks.{build, call, generate, Opening, pool, relay, replay, report}
use Rattle.command_words.specs.Tasks.{serve}
use Rattle.session_generator.specs.{Documents.documents, Generated.session_of}
use Rattle.duplex_server.specs.Responding.{reading_actions}
use Rattle.two_lanes.specs.declared.jobs.Lane.{Lane, TheVariants.A, TheVariants.B}
use Rattle.two_lanes.specs.Merges.{merge, times}
use Rattle.client.specs.Called.{Ack, Awaited, Read}
use Rattle.client.specs.Called.{ack_along, answers_to, handled_of}
use Rattle.client.specs.Sent.{envelopes, Sending}
use Rattle.dump_replay.specs.{Building.status_of_input_fault, Calling.sending_on, Outside.Outside}
use Rattle.dump_replay.specs.Laws.{input_offence, status_of_input}
use Rattle.dump_replay.specs.Rehearsing.{history_offence, status_of_history}
use Rattle.dump_replay.specs.Running.{status_of, WhereAsked}
use Rattle.dump_replay.specs.Statics.{reading_statics, settings_for}
use Rattle.std.specs.FinMap as finite

-- ---- files and lines

-- a run goes on with what a file says, and ends with 6 where it doesn't exist or has a bad row
abbrev pub with_file : {X K : Type 0} → ShelfFile X K → (X → ℕ) → ℕ
with_file (whole says) next = next says
with_file (bad row kind) next = 6
with_file missing next = 6

-- it goes on where a file is read, if one is named
abbrev pub with_named : {X K : Type 0} → Reading X K → Store → Option (List ℕ) → (next : ℕ) → ℕ
with_named reading store None next = next
with_named reading store (Some name) next = with_file (file_in reading store name) (λ says. next)

-- where the file of actions is
abbrev pub with_actions : Store → Option (List ℕ) → (next : ℕ) → ℕ
with_actions = with_named reading_actions

-- and that of the static strings of sessions that are opened for others
abbrev pub with_back : Store → Option (List ℕ) → (next : ℕ) → ℕ
with_back = with_named reading_statics

-- it goes on with the documents of a file
abbrev pub with_documents : Option (Result (List (List Item)) InputFault)
    → (List (List Item) → ℕ) → ℕ
with_documents (Some (Ok read)) next = next read
with_documents (Some (Err fault)) next = 6
with_documents None next = 6

-- and with those of the second list, which is empty where none is named
abbrev pub with_second : Store → Option (List ℕ) → (List (List Item) → ℕ) → ℕ
with_second store None next = next []
with_second store (Some name) next = with_documents (read_of (finite.get store name)) next

-- and with those of the input
abbrev pub with_lines : Result (List (List Item)) InputFault → (List (List Item) → ℕ) → ℕ
with_lines (Ok read) next = next read
with_lines (Err fault) next = status_of_input_fault fault

-- ---- streams

-- of a stream, by what is shown of it
abbrev pub status_of_report : Detail → Settings → List ℕ → ℕ
status_of_report detail x bytes = status_of (offence x bytes) (outcome detail x bytes)

-- of an initiator's stream, which no Fault ends
abbrev pub status_of_stream : Settings → List ℕ → ℕ
status_of_stream x bytes = status_of (offence x bytes) Ended

-- an initiator's stream, to the Via that is served alone or to any
abbrev pub settings_to_answer : Serving → List Entry → Limits → Settings
settings_to_answer serving statics limits =
    record { side = initiators serving.endpoint; statics = statics; limits = limits }

-- of the session that is made, all of whose documents fit
abbrev pub status_of_made : Settings → Result (Placed (List ℕ)) UnfitAt → ℕ
status_of_made x (Ok session) = status_of_stream x session.0
status_of_made x (Err unfit) = 7

-- ---- a call

-- where the peer's Ack is read a document that doesn't fit goes before all that the peer sends; no
-- document is sent without it
abbrev pub unless_unfit : Ack → Result (Placed (List ℕ)) UnfitAt → (next : ℕ) → ℕ
unless_unfit Awaited sent next = next
unless_unfit Read (Ok sent) next = next
unless_unfit Read (Err unfit) next = 7

-- where so many documents may be sent in one session
abbrev pub with_count : Mode → List (List Item) → (next : ℕ) → ℕ
with_count Singleton sent next = if length sent == 1 then next else 6
with_count mode sent next = next

-- of a call with documents, by what the peer sends
abbrev pub status_of_call : Sending → (peer : List ℕ) → ℕ
status_of_call x peer = with_count x.mode x.documents
    (unless_unfit (ack_along Awaited (handled_of x peer)) (envelopes x x.documents)
    (status_of_report Whole (answers_to x) peer))

-- the documents of both lists in the order of these letters, and those that have none behind them
abbrev pub in_order : (first second : List (List Item)) → List Lane → List (List Item)
in_order first second order = merge first second order
    ++ drop (times A order) first ++ drop (times B order) second

-- what is sent in a call
abbrev pub sending_with : Opening → List Entry → TwoLimits → (first second : List (List Item))
    → (order : List Lane) → Sending
sending_with opening statics limits first second order =
    sending_on opening statics limits (in_order first second order)

-- ---- all tasks

module _ (store : Store) (input peer : List ℕ) (order : List Lane) where
  abbrev pub status_of_task : Task → List Entry → TwoLimits → ℕ
  status_of_task (report detail origin) statics limits =
      status_of_report detail (settings_for origin statics limits) input
  status_of_task (build opening) statics limits =
      status_of_input (input_offence opening statics limits.forward input)
  status_of_task (replay serving) statics limits = with_actions store serving.actions
      (status_of_stream (settings_to_answer serving statics limits.forward) input)
  status_of_task (serve listen connections serving) statics limits =
      with_actions store serving.actions 0
  status_of_task (call connect opening second) statics limits =
      with_second store second (λ behind. with_lines (documents_within limits.forward.session input)
      (λ first. status_of_call (sending_with opening statics limits first behind order) peer))
  status_of_task (relay relaying) statics limits = with_back store relaying.back_statics 0
  status_of_task (pool listen connections sessions serving) statics limits =
      with_actions store serving.actions 0
  status_of_task (generate seed count) statics limits =
      status_of_made (any_initiators statics limits.forward)
      (session_of limits.forward statics (documents seed count))

  -- the status of a run that is asked for this on sessions
  abbrev pub status_for : AskedOfSessions → ℕ
  status_for asked = with_file (file_in reading_statics store asked.statics)
      (λ statics. status_of_task asked.task statics asked.limits)

-- no second list of documents is asked for, so that there is one order
abbrev pub HasOneOrder : Task → Type 0
HasOneOrder (call connect opening (Some name)) = ⊥
HasOneOrder task = ⊤

-- the status is the one that an order of the documents gives; or 5, out of memory
pub record IsDetermined (store : Store) (input peer : List ℕ) (asked : AskedOfSessions)
    (status : ℕ) : Type 0 where
  pub order : List Lane
  pub one_order : HasOneOrder asked.task → order ≡ []
  pub status_is : (status ≡ status_for store input peer order asked) ⊎ (status ≡ 5)

-- ---- where nothing of the outside fails

-- A wire's next connection has a peer that sends these bytes, and no call of an end of a connection
-- fails. The wire tells what moves over its connections.
pub record AnswersCall {R K : Type 0} (reader : R → Input) (n n' : Network R K) (peer : List ℕ)
    : Type 0 where
  pub ends : R × K
  pub more : List (R × K)
  pub waiting : n.waiting ≡ Some (ends ∷ more)
  pub sends : (reader ends.0).left ≡ Some peer
  pub closed : List (List ℕ × List ℕ)
  pub told : n.closed ≡ Some closed
  pub ends_well : Rose n.end_faults n'.end_faults → ⊥

-- a call's peer sends these bytes
abbrev pub WherePeer : {R K : Type 0} → Task → (R → Input) → (n n' : Network R K) → (peer : List ℕ)
    → Type 0
WherePeer (call connect opening second) reader n n' peer = AnswersCall reader n n' peer
WherePeer task reader n n' peer = ⊤

-- a task that reads the input is given this
abbrev pub WhereRead : Task → (given : Type 0) → Type 0
WhereRead (serve listen connections serving) given = ⊤
WhereRead (relay relaying) given = ⊤
WhereRead (pool listen connections sessions serving) given = ⊤
WhereRead (generate seed count) given = ⊤
WhereRead task given = given

-- The shelf holds these files, the input that is read gives these bytes, and no count of I/O errors
-- rose. The ends of connections that were accepted may have failed.
pub record GoesWell {R K : Type 0} (reader : R → Input) (old new : Outside R K) (task : Task)
    (store : Store) (input peer : List ℕ) : Type 0 where
  pub files : old.shelf.files ≡ Some store
  pub given : WhereRead task (old.input.left ≡ Some input)
  pub fetched : Rose old.shelf.faults new.shelf.faults → ⊥
  pub read : Rose old.input.faults new.input.faults → ⊥
  pub written : Rose old.output.faults new.output.faults → ⊥
  pub connected : Rose old.wire.faults new.wire.faults → ⊥
  pub called : WherePeer task reader old.wire new.wire peer

-- The input gives these bytes, and the counts of I/O errors of input and output didn't rise.
pub record PlaysWell {R K : Type 0} (old new : Outside R K) (input : List ℕ) : Type 0 where
  pub given : old.input.left ≡ Some input
  pub read : Rose old.input.faults new.input.faults → ⊥
  pub written : Rose old.output.faults new.output.faults → ⊥

-- A run whose words are no request ends with 2, and one in which nothing of the outside fails with
-- the status of what its words ask for; or with 5, out of memory.
pub record IsComplete {R K : Type 0} (reader : R → Input) (words : List (List ℕ))
    (old new : Outside R K) (status : ℕ) : Type 0 where
  pub refused : WhereAsked words (λ asked. ⊥) → (status ≡ 2) ⊎ (status ≡ 5)
  pub determined : (asked : AskedOfSessions) (store : Store) (input peer : List ℕ)
      → IsRequest words (of_sessions asked) → GoesWell reader old new asked.task store input peer
      → IsDetermined store input peer asked status
  pub played : (asked : Rehearsal) (input : List ℕ) → IsRequest words (rehearsal asked)
      → PlaysWell old new input
      → (status ≡ status_of_history (history_offence asked input)) ⊎ (status ≡ 5)
