-- The statuses and notes of a run.
use Rattle.std.specs.Prelude.{◌≡◌, ℕ, ◌≤◌, Bool, true, false, ◌⊎◌, List, [], ◌∷◌, ◌++◌}
use Rattle.std.specs.Prelude.{if◌then◌else◌, ◌==◌, Some, None, codes, decimal, Option}
use Rattle.io_edges.specs.{declared.fault.FileFault.FileFault, Faults.one_more, Faults.Rose}
use Rattle.nbfx_values.specs.declared.refusals.Offence.{Offence}
use Rattle.nbfx_values.specs.declared.refusals.Reason.{Reason, TheVariants.SessionTooLong}
use Rattle.session_report.specs.declared.reporter.Outcome.{Outcome, TheVariants.Faulted}
use Rattle.command_words.specs.Requests.{Asked, AskedOfSessions, IsRequest, of_sessions}
use Rattle.command_words.specs.Tasks.{build, call, generate, pool, relay, replay, report, serve}
use Rattle.command_words.specs.Tasks.{Task}
use Rattle.io_edges.specs.declared.fault.FileFault.TheVariants as faults

-- this holds of what the words ask for, if they are a request
abbrev pub WhereAsked : List (List ℕ) → (Asked → Type 0) → Type 0
WhereAsked words Holds = (asked : Asked) → IsRequest words asked → Holds asked

abbrev pub is_session_too_long : Reason → Bool
is_session_too_long SessionTooLong = true
is_session_too_long _ = false

abbrev pub offence_status : Offence → ℕ
offence_status o = if is_session_too_long o.reason then 10 else 1

-- the status of a stream with this offence, or without one, by how its session has ended
abbrev pub status_of : Option Offence → Outcome → ℕ
status_of (Some o) outcome = offence_status o
status_of None Faulted = 9
status_of None outcome = 0

-- the status is of a stream that was read to its end, or as far as it is judged
abbrev pub IsJudged : ℕ → Type 0
IsJudged n = (n ≡ 0) ⊎ (n ≡ 1) ⊎ (n ≡ 9) ⊎ (n ≡ 10)

-- the statuses that there are
abbrev pub IsStatus : ℕ → Type 0
IsStatus n = IsJudged n ⊎ (n ≡ 2) ⊎ (n ≡ 3) ⊎ (n ≡ 4) ⊎ (n ≡ 5) ⊎ (n ≡ 6) ⊎ (n ≡ 7)
    ⊎ (n ≡ 8)

-- the note that goes with a status by itself
abbrev pub note_of : ℕ → List ℕ
note_of n =
    if n == 2 then codes "words not understood\n" else if n == 3 then codes "read fault\n"
    else if n == 4 then codes "write fault\n" else if n == 5 then codes "out of memory\n"
    else if n == 8 then codes "wire fault\n" else []

-- what a run leaves of a wire's count of faults and of that of its ended ends, by the status: a
-- connection that isn't made, or one of whose ends a call fails
pub record CountsWire (faults faults' ends ends' status : ℕ) : Type 0 where
  pub rose : status ≡ 8 → Rose faults faults' ⊎ Rose ends ends'
  pub same : (status ≡ 8 → ⊥) → faults' ≡ faults
  pub grows : faults ≤ faults'

-- ---- files

-- the status of a run in which a file isn't read
abbrev pub status_of_file : {K : Type 0} → FileFault K → ℕ
status_of_file faults.Missing = 6
status_of_file (faults.Bad row kind) = 6
status_of_file faults.Failed = 3
status_of_file faults.Memory = 5

-- and its note, where this says what is wrong with a row
abbrev pub note_of_file : {K : Type 0} → (K → List ℕ) → List ℕ → FileFault K → List ℕ
note_of_file kind_name name faults.Missing = name ++ codes ": not found\n"
note_of_file kind_name name (faults.Bad row kind) =
    name ++ codes ": row " ++ decimal row ++ codes " " ++ kind_name kind ++ codes "\n"
note_of_file kind_name name faults.Failed = note_of 3
note_of_file kind_name name faults.Memory = note_of 5

-- the name of a file that may be named
abbrev pub if_named : Option (List ℕ) → List (List ℕ)
if_named None = []
if_named (Some name) = name ∷ []

-- the files that a task names, in the order in which they are read
abbrev pub files_of : Task → List (List ℕ)
files_of (report detail origin) = []
files_of (build opening) = []
files_of (replay serving) = if_named serving.actions
files_of (serve listen connections serving) = if_named serving.actions
files_of (call connect opening second) = if_named second
files_of (relay relaying) = if_named relaying.back_statics
files_of (pool listen connections sessions serving) = if_named serving.actions
files_of (generate seed count) = []

-- no more files were fetched than these are
abbrev pub HasFetched : List (List ℕ) → (fetches fetches' : ℕ) → Type 0
HasFetched [] fetches fetches' = fetches' ≡ fetches
HasFetched (name ∷ names) fetches fetches' =
    (fetches' ≡ fetches) ⊎ HasFetched names (one_more fetches) fetches'

-- no file was fetched, or no more than a request on sessions names
abbrev pub FetchesNamed : List (List ℕ) → (fetches fetches' : ℕ) → Type 0
FetchesNamed words fetches fetches' = (fetches' ≡ fetches) ⊎ ((asked : AskedOfSessions)
    × IsRequest words (of_sessions asked)
    × HasFetched (asked.statics ∷ files_of asked.task) fetches fetches')
