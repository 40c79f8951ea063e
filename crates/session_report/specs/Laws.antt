-- What holds of reports by their definitions alone, whatever the settings and the detail.
use Rattle.std.specs.Prelude.{◌≡◌, ℕ, List, [], ◌++◌, length, flat_map}
use Rattle.{unit_streams.specs.Judging.events, nbfx_values.specs.Limits.IsGood}
use Rattle.stream_reader.specs.{Judging.offence, Stream.Settings, Stream.stream}
use Rattle.stream_reader.specs.Sessions.{IsSession, lone_ack, MayFollow, Parts, session_events}
use Rattle.command_words.specs.declared.task.Detail.{Detail}
use Rattle.session_report.specs.Report.{ended_line, last_line, outcome, report, told_of}

-- a report is the lines of each event, in their order, and then the last line
abbrev pub ReportsEvents : Type 0
ReportsEvents = (d : Detail) (x : Settings) (bytes : List ℕ)
    → report d x bytes
    ≡ flat_map (told_of d) (events (stream x) bytes) ++ last_line (outcome d x bytes)
    (offence x bytes)

-- the line that says how long a session was, where none of its events does
abbrev pub closing_line : Parts → ℕ → List ℕ
closing_line lone_ack n = ended_line n
closing_line parts n = []

-- Where a session closes a stream, its parts are the report, whatever follows it.
abbrev pub ReportsSessions : Type 0
ReportsSessions = (d : Detail) (x : Settings) → IsGood x.limits
    → (parts : Parts) (session rest : List ℕ) → IsSession x parts session → MayFollow parts rest
    → report d x (session ++ rest)
    ≡ flat_map (told_of d) (session_events parts (length session))
    ++ closing_line parts (length session)
