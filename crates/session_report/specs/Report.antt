-- What a report of a stream says, in lines, and how a session ends by its events.
use Rattle.std.specs.Prelude.{ℕ, List, [], ◌∷◌, ◌++◌, length, Some, None, codes, decimal, Option}
use Rattle.unit_streams.specs.Tellers.{report as report_by, Teller}
use Rattle.{string_tables.specs.SessionStrings.used_cost, command_words.specs.Values.mode_name}
use Rattle.nbfx_values.specs.declared.{content.Item.Item, refusals.Offence.Offence}
use Rattle.nbfx_values.specs.declared.refusals.Place.{Place, TheVariants.Frame, TheVariants.Payload}
use Rattle.nbfx_values.specs.declared.session.{Kind.Kind, Mode.Mode}
use Rattle.nbfx_values.specs.{Measures.content_of, Measures.depth_of, Session.kind_number}
use Rattle.nbfx_values.specs.Refusals.{reason_name, reason_number}
use Rattle.stream_reader.specs.Stream.{accepted, ended, Envelope, message, opened, peer_fault}
use Rattle.stream_reader.specs.Stream.{Settings, stream, StreamEvent}
use Rattle.stream_loop.specs.Reported.{last_state}
use Rattle.line_notation.specs.{Lines.items_text, Lines.with_line_feed, Quoted.quoted, Words.spaced}
use Rattle.command_words.specs.declared.task.Detail.{Detail, TheVariants.Summary, TheVariants.Whole}
use Rattle.session_report.specs.declared.reporter.Outcome.{Outcome}
use Rattle.session_report.specs.declared.reporter.Outcome.TheVariants.{Ended, Faulted, Open}

-- a line: its keyword, other words, each after a space, and a line feed
abbrev pub line : List ℕ → List (List ℕ) → List ℕ
line keyword words = with_line_feed (spaced (keyword ∷ words))

abbrev pub open_line : Mode → Kind → List ℕ → List ℕ
open_line mode kind via =
    line (codes "open") (mode_name mode ∷ decimal (kind_number kind) ∷ quoted via ∷ [])

abbrev pub accepted_line : List ℕ
accepted_line = line (codes "accepted") []

-- what a document with this content measures
abbrev pub measure_words : List Item → ℕ → List (List ℕ)
measure_words items content = codes "items" ∷ decimal (length items)
    ∷ codes "depth" ∷ decimal (depth_of items)
    ∷ codes "content" ∷ decimal content ∷ []

-- how many strings there are, and what they cost
abbrev pub string_words : ℕ → ℕ → List (List ℕ)
string_words count used = codes "strings" ∷ decimal count ∷ codes "used" ∷ decimal used ∷ []

-- an envelope, with the strings that its direction has after it
abbrev pub message_line : Envelope → List ℕ
message_line e = line (codes "message") (decimal e.number ∷ codes "payload" ∷ decimal e.size
    ∷ measure_words e.items (content_of e.items)
    ++ string_words (length e.strings) (used_cost e.strings))

abbrev pub ended_line : ℕ → List ℕ
ended_line n = line (codes "ended") (decimal n ∷ [])

abbrev pub fault_line : ℕ → List ℕ → List ℕ
fault_line n text = line (codes "fault") (decimal n ∷ quoted text ∷ [])

abbrev pub place_words : Place → List (List ℕ)
place_words (Frame offset) = codes "frame" ∷ decimal offset ∷ []
place_words (Payload number at) = codes "payload" ∷ decimal number ∷ decimal at ∷ []

unfoldable pub offence_line : Offence → List ℕ
offence_line o = line (codes "offence")
    (place_words o.place ++ decimal (reason_number o.reason) ∷ reason_name o.reason ∷ [])

-- the line of an event
abbrev pub event_line : StreamEvent → List ℕ
event_line (opened mode kind via) = open_line mode kind via
event_line accepted = accepted_line
event_line (message envelope) = message_line envelope
event_line (ended n) = ended_line n
event_line (peer_fault n text) = fault_line n text

-- the lines of the document that an event brings
abbrev pub document_lines : StreamEvent → List ℕ
document_lines (message envelope) = items_text envelope.items
document_lines _ = []

-- the lines of an event: its own, and where documents are shown whole, theirs after it
abbrev pub told_of : Detail → StreamEvent → List ℕ
told_of Summary event = event_line event
told_of Whole event = event_line event ++ document_lines event

-- how the session has ended after an event
abbrev pub next_outcome : Outcome → StreamEvent → Outcome
next_outcome outcome (ended n) = Ended
next_outcome outcome (peer_fault n text) = Faulted
next_outcome outcome event = outcome

-- the bytes of a receiver's Ack
abbrev pub ack_length : ℕ
ack_length = 1

-- the last line, where there is another: the offence's; and where the input alone has ended the
-- session, that it is over: its stream is then the receiver's Ack alone
abbrev pub last_line : Outcome → Option Offence → List ℕ
last_line outcome (Some o) = offence_line o
last_line Open None = ended_line ack_length
last_line outcome None = []

-- what a report says: of each event, and then at the end
abbrev pub lines_of : Detail → Teller Outcome StreamEvent Offence
lines_of d = record {
  start = Open;
  told = λ outcome event. told_of d event;
  next = next_outcome;
  ends = last_line;
}

-- the report of a stream
abbrev pub report : Detail → Settings → List ℕ → List ℕ
report d x bytes = report_by (stream x) (lines_of d) bytes

-- how the session has ended after all events of a stream
abbrev pub outcome : Detail → Settings → List ℕ → Outcome
outcome d x bytes = last_state (stream x) (lines_of d) bytes
