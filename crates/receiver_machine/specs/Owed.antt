-- What a receiver's framing answers with: a Preamble Ack to the preamble, an End to the session's
-- end, and to an offence the Fault record of its text, where it has one.
use Rattle.std.specs.Prelude.{ℕ, List, [], Some, None, Ok, Err, Option, Result, ⊤}
use Rattle.nbfx_values.specs.declared.refusals.{Offence.Offence, Reason.Reason}
use Rattle.nmf_records.specs.declared.frame.Frame.TheVariants.{End, Fault, PreambleAck}
use Rattle.nmf_records.specs.Writing.{fault_text_of, frame_bytes_of}
use Rattle.stream_reader.specs.declared.reader.{ReadRefusal.ReadRefusal, StreamStep.StreamStep}
use Rattle.receiver_machine.specs.declared.owed.Owed.{Owed}
use Rattle.stream_reader.specs.declared.reader.ReadRefusal.TheVariants as refusals
use Rattle.stream_reader.specs.declared.reader.StreamStep.TheVariants as steps
use Rattle.receiver_machine.specs.declared.owed.Owed.TheVariants as owes

-- the Fault record with this text
abbrev pub fault_with : Option (List ℕ) → List ℕ
fault_with None = []
fault_with (Some text) = frame_bytes_of Fault text

-- for a stream that is refused for this reason
abbrev pub fault_record : Reason → List ℕ
fault_record reason = fault_with (fault_text_of reason)

-- what ends a receiver's stream: an End, or what says why the initiator's is refused, where there is
-- a text for that
abbrev pub closing_bytes : Option Offence → List ℕ
closing_bytes None = frame_bytes_of End []
closing_bytes (Some offence) = fault_record offence.reason

-- for a refusal
abbrev pub owed_for : ReadRefusal → List ℕ
owed_for (refusals.Offence o) = closing_bytes (Some o)
owed_for refusals.Memory = []

-- what the code keeps of it, and what that is in bytes
abbrev pub bytes_of : Owed → List ℕ
bytes_of owes.Nothing = []
bytes_of owes.Ack = frame_bytes_of PreambleAck []
bytes_of owes.End = closing_bytes None

abbrev pub after_step : Owed → StreamStep → Owed
after_step owed steps.More = owed
after_step owed (steps.Opened mode kind) = owes.Ack
after_step owed (steps.Ended n) = owes.End
after_step owed step = owes.Nothing

abbrev pub after_answer : Owed → Result (ℕ × StreamStep) ReadRefusal → Owed
after_answer owed (Ok answer) = after_step owed answer.1
after_answer owed (Err refusal) = owed

-- what is owed after a step, where these bytes were owed before it
abbrev pub owed_after : List ℕ → StreamStep → List ℕ
owed_after owed steps.More = owed
owed_after owed (steps.Opened mode kind) = frame_bytes_of PreambleAck []
owed_after owed (steps.Ended n) = closing_bytes None
owed_after owed step = []

-- after the answer to a piece
abbrev pub owed_behind : List ℕ → Result (ℕ × StreamStep) ReadRefusal → List ℕ
owed_behind owed (Ok answer) = owed_after owed answer.1
owed_behind owed (Err refusal) = owed_for refusal

-- after the answer to the end of the input
abbrev pub owed_at_end : List ℕ → Result ⊤ Offence → List ℕ
owed_at_end owed (Ok _) = owed
owed_at_end owed (Err o) = closing_bytes (Some o)
