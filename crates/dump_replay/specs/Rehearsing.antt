-- What the command that plays a history leaves, by how that ended.
use Rattle.std.specs.Prelude.{◌≡◌, ℕ, ◌↔◌, List, [], ◌++◌, map, Some, None, Ok, codes, Option}
use Rattle.{unit_streams.specs.Judging.offence, line_notation.specs.Lines.cut}
use Rattle.stream_loop.specs.{declared.reporting.ReportEnding.ReportEnding, Edges.Input}
use Rattle.io_edges.specs.Views.{SinkView}
use Rattle.stream_loop.specs.declared.reporting.ReportEnding.TheVariants.{Judged, Memory, ReadFault}
use Rattle.stream_loop.specs.declared.reporting.ReportEnding.TheVariants.{WriteFault}
use Rattle.stream_loop.specs.Reported.{EndsAs}
use Rattle.reliable_sequence.specs.declared.events.{Counts.Counts, Event.Event}
use Rattle.reliable_sequence.specs.{Laws.DeliversInOrder, Rehearsal.counts_of}
use Rattle.rehearsal.specs.declared.fault.HistoryFault.{HistoryFault, TheVariants.Line}
use Rattle.rehearsal.specs.declared.fault.HistoryFault.TheVariants.{TooLong}
use Rattle.rehearsal.specs.{Forms.event_of, History.history, History.IsInForm, History.Settings}
use Rattle.rehearsal.specs.History.{counts_line, delivered_lines, run_over, told}
use Rattle.command_words.specs.Tasks.{Rehearsal}
use Rattle.dump_replay.specs.{Building.line_note, Running.note_of}

-- the sequence that is asked for
abbrev pub settings_for_history : Rehearsal → Settings
settings_for_history asked = record { identifier = asked.id; window = asked.window }

-- why its history is refused, if it is
abbrev pub history_offence : Rehearsal → List ℕ → Option HistoryFault
history_offence asked bytes = offence (history (settings_for_history asked)) bytes

-- ---- statuses and notes

abbrev pub status_of_history : Option HistoryFault → ℕ
status_of_history None = 0
status_of_history (Some (Line n kind)) = 6
status_of_history (Some TooLong) = 10

-- the status of a run that ends so
abbrev pub status_of_rehearsal : ReportEnding HistoryFault → ℕ
status_of_rehearsal (Judged judged) = status_of_history judged
status_of_rehearsal ReadFault = 3
status_of_rehearsal WriteFault = 4
status_of_rehearsal Memory = 5

-- and its note
abbrev pub note_of_history : Option HistoryFault → List ℕ
note_of_history None = []
note_of_history (Some (Line n kind)) = line_note (codes "input") n kind
note_of_history (Some TooLong) = codes "input too long\n"

abbrev pub note_of_rehearsal : ReportEnding HistoryFault → List ℕ
note_of_rehearsal (Judged judged) = note_of_history judged
note_of_rehearsal ReadFault = note_of 3
note_of_rehearsal WriteFault = note_of 4
note_of_rehearsal Memory = note_of 5

-- What is known of a history that is played so, where that ends so: of all that the input gives,
-- where it tells that; what was read and written; how many takes of the input gave nothing; and what
-- failed calls left of the counts of faults.
abbrev pub Rehearses : Rehearsal → (i i' : Input) (o o' : SinkView) → ReportEnding HistoryFault
    → Type 0
Rehearses asked i i' o o' ending =
    (counts : Counts) × EndsAs (history (settings_for_history asked)) told i i' o o' counts ending

-- A history was played, with the status and the note of how that ended; Says is what is known of the
-- note with a text.
pub record Rehearsed (Says : List ℕ → Type 0) (asked : Rehearsal) (i i' : Input) (o o' : SinkView)
    (status : ℕ) : Type 0 where
  pub ending : ReportEnding HistoryFault
  pub status_is : status ≡ status_of_rehearsal ending
  pub plays : Rehearses asked i i' o o' ending
  pub says : Says (note_of_rehearsal ending)

-- ---- what a history is, in all

-- where all lines say these events, their run writes this
abbrev pub history_text : Rehearsal → List Event → List ℕ
history_text asked events =
    let run = run_over (settings_for_history asked) events in
    delivered_lines run.delivered ++ counts_line (counts_of run.kept)

-- a history was played whole, behind what the output held: what it delivers are the first of the
-- bodies that it submits, in their order
pub record IsPlayedWhole (asked : Rehearsal) (bytes : List ℕ) (o o' : SinkView) : Type 0 where
  pub events : List Event
  pub events_are : map event_of (cut bytes).0 ≡ map Ok events
  pub whole : (cut bytes).1 ≡ []
  pub written : (w : List ℕ) → o.written ≡ Some w
      → o'.written ≡ Some (w ++ o.held ++ history_text asked events)
  pub in_order : DeliversInOrder (run_over (settings_for_history asked) events)

-- with status 0 a history was played whole
abbrev pub ZeroIsPlayedWhole : Type 0
ZeroIsPlayedWhole = (asked : Rehearsal) (i i' : Input) (o o' : SinkView)
    (ending : ReportEnding HistoryFault)
    → Rehearses asked i i' o o' ending → status_of_rehearsal ending ≡ 0
    → (bytes : List ℕ) → i.left ≡ Some bytes → IsPlayedWhole asked bytes o o'

-- the status of a history is 0 exactly where it is in form
abbrev pub ZeroInForm : Type 0
ZeroInForm = (asked : Rehearsal) (bytes : List ℕ)
    → (status_of_history (history_offence asked bytes) ≡ 0) ↔ IsInForm bytes
