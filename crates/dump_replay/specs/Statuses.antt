-- What the parts of a run answer. Public contracts cite none of this.
use Rattle.{std.specs.Prelude.ℕ, nbfx_values.specs.declared.refusals.Offence.Offence}
use Rattle.{stream_loop.specs.declared.reporting.ReportEnding.ReportEnding}
use Rattle.{dump_replay.specs.Running.status_of}
use Rattle.session_report.specs.declared.reporter.Outcome.{Outcome}
use Rattle.command_words.specs.declared.words.WordsFault.{WordsFault}
use Rattle.stream_loop.specs.declared.reporting.ReportEnding.TheVariants as endings
use Rattle.command_words.specs.declared.words.WordsFault.TheVariants as words

-- the status of an ending, by how the session has ended
abbrev pub status_at : ReportEnding Offence → Outcome → ℕ
status_at (endings.Judged o) outcome = status_of o outcome
status_at endings.ReadFault outcome = 3
status_at endings.WriteFault outcome = 4
status_at endings.Memory outcome = 5

-- the status of a run whose words aren't read
abbrev pub status_of_words : WordsFault → ℕ
status_of_words words.NotUnderstood = 2
status_of_words words.Memory = 5
