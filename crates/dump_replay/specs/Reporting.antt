-- What a command that reports a stream leaves, by its status. The output may have held bytes
-- before, which are written before what is put.
use Rattle.std.specs.Prelude.{◌≡◌, ℕ, Bool, true, false, ◌⊎◌, List, ◌++◌, if◌then◌else◌, Some}
use Rattle.{std.specs.Prelude.Option, nbfx_values.specs.declared.refusals.Offence.Offence}
use Rattle.io_edges.specs.{Faults.CountsFaults, Faults.one_more, Faults.Rose, Flow.GrowsByPrefix}
use Rattle.stream_reader.specs.{Judging.offence, Stream.Settings, Stream.stream}
use Rattle.stream_reader.specs.Sessions.{broken_off, IsClosed, Parts, turned_down}
use Rattle.stream_loop.specs.Edges.{Input}
use Rattle.stream_loop.specs.Reported.{Breaks, Decides, Reaches}
use Rattle.session_report.specs.declared.reporter.Outcome.{Outcome}
use Rattle.session_report.specs.Report.{lines_of, outcome, report}
use Rattle.command_words.specs.declared.task.Detail.{Detail}
use Rattle.dump_replay.specs.Running.{is_session_too_long, IsJudged, status_of}
use Rattle.io_edges.specs.Views.{SinkView}

-- a session of these parts ends with a receiver's Fault
abbrev pub ends_by_fault : Parts → Bool
ends_by_fault (broken_off carried text) = true
ends_by_fault (turned_down text) = true
ends_by_fault parts = false

-- the status of a stream that such a session closes
abbrev pub closing_status : Parts → ℕ
closing_status parts = if ends_by_fault parts then 9 else 0

-- a session closes the stream, and doesn't end with a Fault
abbrev pub IsEnded : Settings → List ℕ → Type 0
IsEnded x bytes = (closed : IsClosed x bytes) × (ends_by_fault closed.parts ≡ false)

-- a session closes the stream, and ends with a Fault
abbrev pub IsFaulted : Settings → List ℕ → Type 0
IsFaulted x bytes = (closed : IsClosed x bytes) × (ends_by_fault closed.parts ≡ true)

-- the stream has an offence, which is or isn't that it is too long
abbrev pub IsOffended : Settings → List ℕ → Bool → Type 0
IsOffended x bytes long =
    (o : Offence) × (offence x bytes ≡ Some o) × (is_session_too_long o.reason ≡ long)

-- the status is of a stream that is judged, of a fault of the outside, or of want of memory
abbrev pub IsReportStatus : ℕ → Type 0
IsReportStatus n = IsJudged n ⊎ (n ≡ 3) ⊎ (n ≡ 4) ⊎ (n ≡ 5)

-- what is known of a stream that is reported in this detail, and read so, where the run ends with
-- this status: of all that the input gives, where it tells that; what was read and written; how
-- many takes of the input gave nothing; and what the calls that failed by the outside left of the
-- counts
pub record Reports (d : Detail) (x : Settings) (i i' : Input) (o o' : SinkView) (status : ℕ)
    : Type 0 where
  pub is_status : IsReportStatus status
  pub ended : status ≡ 0 → (stream : List ℕ) → i.left ≡ Some stream → IsEnded x stream
  pub faulted : status ≡ 9 → (stream : List ℕ) → i.left ≡ Some stream → IsFaulted x stream
  pub offended : status ≡ 1 → (stream : List ℕ) → i.left ≡ Some stream
      → IsOffended x stream false
  pub too_long : status ≡ 10 → (stream : List ℕ) → i.left ≡ Some stream
      → IsOffended x stream true
  pub complete : (stream : List ℕ) → i.left ≡ Some stream
      → (status ≡ status_of (offence x stream) (outcome d x stream))
      ⊎ (status ≡ 3) ⊎ (status ≡ 4) ⊎ (status ≡ 5)
  pub closed : (stream : List ℕ) → i.left ≡ Some stream → (closed : IsClosed x stream)
      → (Rose i.faults i'.faults → ⊥) → (Rose o.faults o'.faults → ⊥)
      → (status ≡ closing_status closed.parts) ⊎ (status ≡ 5)
  pub reported : IsJudged status → (stream w : List ℕ)
      → i.left ≡ Some stream → o.written ≡ Some w
      → o'.written ≡ Some (w ++ o.held ++ report d x stream)
  pub decided : IsJudged status → (judged : Option Offence) × (end : Outcome)
      × (status_of judged end ≡ status) × Decides (stream x) (lines_of d) i i' o o' judged end
  pub broken : status ≡ 3 → Breaks (stream x) (lines_of d) i i' o o'
  pub cut : (stream w : List ℕ) → i.left ≡ Some stream → o.written ≡ Some w
      → (w' : List ℕ) × (o'.written ≡ Some w') × GrowsByPrefix w w' (o.held ++ report d x stream)
  pub reaches : Reaches (stream x) (lines_of d) i i' o o'
  pub one_empty_take : (i'.empty_takes ≡ i.empty_takes)
      ⊎ ((i'.empty_takes ≡ one_more i.empty_takes) × (status ≡ 3 → ⊥))
  pub reads_counted : CountsFaults i.faults i'.faults (status ≡ 3)
  pub writes_counted : CountsFaults o.faults o'.faults (status ≡ 4)
