-- How a reader says what a stream's grammar answers.
use Rattle.std.specs.Prelude.{◌≡◌, ℕ, length, Some, None, Ok, Err, Option, Result, ⊤}
use Rattle.unit_streams.specs.Judging.{Answer, completes, goes_on, offends}
use Rattle.string_tables.specs.SessionStrings.{used_cost}
use Rattle.nbfx_values.specs.declared.refusals.Offence.{Offence}
use Rattle.stream_reader.specs.declared.reader.{ReadRefusal.ReadRefusal, StreamStep.StreamStep}
use Rattle.stream_reader.specs.Stream.{accepted, ended, message, opened, peer_fault, StreamEvent}
use Rattle.stream_reader.specs.declared.reader.ReadRefusal.TheVariants as refusals
use Rattle.stream_reader.specs.declared.reader.StreamStep.TheVariants as steps

-- an event; the texts of a Via and of a Fault stay in the reader
abbrev pub step_for : StreamEvent → StreamStep
step_for (opened mode kind via) = steps.Opened mode kind
step_for accepted = steps.Accepted
step_for (message e) =
    steps.Message e.number e.size e.items (length e.strings) (used_cost e.strings)
step_for (ended n) = steps.Ended n
step_for (peer_fault n text) = steps.PeerFault n

-- an answer to a piece of so many bytes
abbrev pub said : ℕ → Answer StreamEvent Offence → Result (ℕ × StreamStep) ReadRefusal
said n goes_on = Ok (n, steps.More)
said n (completes k event) = Ok (k, step_for event)
said n (offends k o) = Err (refusals.Offence o)

-- it is said so, or there was no memory to say it
abbrev pub Says : ℕ → Answer StreamEvent Offence → Result (ℕ × StreamStep) ReadRefusal → Type 0
Says n answer (Err refusals.Memory) = ⊤
Says n answer result = result ≡ said n answer

-- the event that ended the session is said again, and no byte is used
abbrev pub Repeats : Option StreamEvent → Result (ℕ × StreamStep) ReadRefusal → Type 0
Repeats None result = ⊥
Repeats (Some event) result = result ≡ Ok (0, step_for event)

-- what the end of the input is answered with
abbrev pub said_at_end : Option Offence → Result ⊤ ReadRefusal
said_at_end None = Ok tt
said_at_end (Some o) = Err (refusals.Offence o)
