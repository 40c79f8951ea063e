-- What was put of an event.
use Rattle.std.specs.Prelude.{◌≡◌}
use Rattle.session_report.specs.declared.reading.Event.{Event}
use Rattle.stream_loop.specs.declared.outbound.Outbound.{Outbound, TheVariants.Done}
use Rattle.stream_loop.specs.Writing.{Goes}
use Rattle.session_report.specs.Saying.{said_lines}
use Rattle.command_words.specs.declared.task.Detail.TheVariants.{Whole}
use Rattle.io_edges.specs.Views.{SinkView}

-- the lines of an event were put, or nothing where the writing had ended
pub record Reports (event : Event) (report report' : Outbound) (old new : SinkView) : Type 0 where
  pub goes : report ≡ Done → Goes report' (said_lines Whole event) old new
  pub stays : (report ≡ Done → ⊥) → report' ≡ report
  pub untouched : (report ≡ Done → ⊥) → new ≡ old
