-- How events are said by a reading end, and what a reporter writes of them.
use Rattle.std.specs.Prelude.{◌≡◌, ℕ, List, [], ◌∷◌, ◌++◌, length, Some, None, codes, decimal}
use Rattle.{std.specs.Prelude.Option, string_tables.specs.SessionStrings.used_cost}
use Rattle.unit_streams.specs.{Judging.event_at, Tellers.Teller}
use Rattle.nbfx_values.specs.{declared.refusals.Offence.Offence, Measures.content_of}
use Rattle.stream_reader.specs.{declared.reader.StreamReader.StreamReader, Saying.step_for}
use Rattle.stream_reader.specs.declared.reader.StreamStep.{StreamStep, TheVariants.More}
use Rattle.stream_reader.specs.Stream.{accepted, ended, message, opened, peer_fault, stream}
use Rattle.{stream_reader.specs.Stream.StreamEvent, line_notation.specs.Lines.items_text}
use Rattle.stream_reader.specs.StreamReaderState.{settings_of, StandsFor}
use Rattle.command_words.specs.declared.task.Detail.{Detail, TheVariants.Summary, TheVariants.Whole}
use Rattle.session_report.specs.declared.reading.{Event.Event, Received.Received}
use Rattle.session_report.specs.declared.reporter.Outcome.{Outcome}
use Rattle.session_report.specs.declared.reporter.Outcome.TheVariants.{Ended, Faulted, Open}
use Rattle.session_report.specs.Report.{accepted_line, ended_line, fault_line, last_line, line}
use Rattle.session_report.specs.Report.{measure_words, open_line, string_words}
use Rattle.session_report.specs.declared.reading.Event.TheVariants as events

-- the value that an event is said with
abbrev pub event_for : StreamEvent → Event
event_for (opened mode kind via) = events.Opened mode kind via
event_for accepted = events.Accepted
event_for (message e) = events.Message (record {
  number = e.number;
  size = e.size;
  content = content_of e.items;
  strings = length e.strings;
  used = used_cost e.strings;
  doc = e.items;
})
event_for (ended n) = events.Ended n
event_for (peer_fault n text) = events.PeerFault n text

-- a step that a reader has just made says this, whatever it stands for
abbrev pub SaysStep : StreamReader → StreamStep → Option Event → Type 0
SaysStep reader step said = ((step ≡ More) → said ≡ None)
    × ((p : List ℕ) (event : StreamEvent) → StandsFor reader p
    → event_at (stream (settings_of reader)) p ≡ Some event → step ≡ step_for event
    → said ≡ Some (event_for event))

-- the line of an envelope as it is said
abbrev pub received_line : Received → List ℕ
received_line r = line (codes "message") (decimal r.number ∷ codes "payload" ∷ decimal r.size
    ∷ measure_words r.doc r.content ++ string_words r.strings r.used)

-- the line of an event as it is said
abbrev pub said_line : Event → List ℕ
said_line (events.Opened mode kind via) = open_line mode kind via
said_line events.Accepted = accepted_line
said_line (events.Message received) = received_line received
said_line (events.Ended n) = ended_line n
said_line (events.PeerFault n text) = fault_line n text

-- the lines of the document that it brings
abbrev pub said_document : Event → List ℕ
said_document (events.Message received) = items_text received.doc
said_document _ = []

-- its lines
abbrev pub said_lines : Detail → Event → List ℕ
said_lines Summary event = said_line event
said_lines Whole event = said_line event ++ said_document event

-- how the session has ended after it
abbrev pub said_outcome : Outcome → Event → Outcome
said_outcome outcome (events.Ended n) = Ended
said_outcome outcome (events.PeerFault n text) = Faulted
said_outcome outcome event = outcome

-- what is written of events as they are said
abbrev pub said_by : Detail → Teller Outcome Event Offence
said_by d = record {
  start = Open;
  told = λ outcome event. said_lines d event;
  next = said_outcome;
  ends = last_line;
}
