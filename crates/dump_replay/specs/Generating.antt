-- What the command that makes a session and measures it leaves, by how that ended.
use Rattle.std.specs.Prelude.{◌≡◌, ℕ, List, []}
use Rattle.{string_tables.specs.StaticStrings.Entry}
use Rattle.{nbfx_values.specs.Limits.Limits, session_report.specs.Report.offence_line}
use Rattle.session_generator.specs.{declared.summary.Summary.Summary, Documents.documents}
use Rattle.session_generator.specs.declared.summary.Summary.TheVariants.{Memory, TooLong}
use Rattle.session_generator.specs.declared.summary.Summary.TheVariants.{WriteFault, Written}
use Rattle.session_generator.specs.Summary.{status_of, Summarizes}
use Rattle.dump_replay.specs.Running.{note_of}
use Rattle.io_edges.specs.Views.{SinkView}

-- the note of a run that ends so
abbrev pub note_of_summary : Summary → List ℕ
note_of_summary Written = []
note_of_summary (TooLong offence) = offence_line offence
note_of_summary WriteFault = note_of 4
note_of_summary Memory = note_of 5

-- The session of so many documents that follow the seed was made and measured, with the status and
-- the note of how that ended; Says is what is known of the note with a text.
pub record Generated (Says : List ℕ → Type 0) (seed count : ℕ) (statics : List Entry)
    (limits : Limits) (o o' : SinkView) (status : ℕ) : Type 0 where
  pub summary : Summary
  pub status_is : status ≡ status_of summary
  pub summarizes : Summarizes limits statics (documents seed count) o o' summary
  pub says : Says (note_of_summary summary)
