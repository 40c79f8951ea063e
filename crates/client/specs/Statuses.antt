-- The status of a run that ends with a call, and what its note says beside the status.
use Rattle.std.specs.Prelude.{ℕ, Bool, true, false, ◌||◌, if◌then◌else◌, Some, None, Option}
use Rattle.nbfx_values.specs.declared.refusals.Reason.{Reason, TheVariants.SessionTooLong}
use Rattle.stream_loop.specs.declared.outbound.Outbound.{Outbound}
use Rattle.document_lines.specs.declared.InputFault.{InputFault}
use Rattle.client.specs.declared.called.Called.{Called, TheVariants.WrongCount}
use Rattle.client.specs.declared.called.Called.TheVariants.{Closed, Starved, Unconnected}
use Rattle.client.specs.declared.outcome.{CallOutcome.CallOutcome, ClientOut.ClientOut}
use Rattle.client.specs.declared.outcome.ClientIn.{ClientIn, TheVariants.ReadFault}
use Rattle.client.specs.declared.outcome.ClientIn.TheVariants.{Memory, Offended, PeerFault}
use Rattle.line_notation.specs.declared.reader.LineKind.TheVariants as kinds
use Rattle.stream_loop.specs.declared.outbound.Outbound.TheVariants as outbounds
use Rattle.document_lines.specs.declared.InputFault.TheVariants as inputs
use Rattle.client.specs.declared.outcome.ClientOut.TheVariants as out

abbrev pub is_starved_in : ClientIn → Bool
is_starved_in Memory = true
is_starved_in _ = false

abbrev pub is_starved_out : ClientOut → Bool
is_starved_out out.Memory = true
is_starved_out _ = false

abbrev pub is_starved_report : Outbound → Bool
is_starved_report outbounds.Memory = true
is_starved_report _ = false

-- there was no memory for a part of the call
abbrev pub wants_memory : CallOutcome → Bool
wants_memory o =
    is_starved_in o.inbound || is_starved_out o.outbound || is_starved_report o.report

abbrev pub fails_in : ClientIn → Bool
fails_in ReadFault = true
fails_in _ = false

abbrev pub fails_out : ClientOut → Bool
fails_out out.WriteFault = true
fails_out _ = false

-- an end of the connection failed
abbrev pub fails : CallOutcome → Bool
fails o = fails_in o.inbound || fails_out o.outbound

abbrev pub is_unfit : ClientOut → Bool
is_unfit (out.Unfit number fault) = true
is_unfit _ = false

abbrev pub fails_report : Outbound → Bool
fails_report outbounds.WriteFault = true
fails_report _ = false

abbrev pub reason_status : Reason → ℕ
reason_status SessionTooLong = 10
reason_status _ = 1

-- by how the peer's stream ended
abbrev pub inbound_status : ClientIn → ℕ
inbound_status PeerFault = 9
inbound_status (Offended o) = reason_status o.reason
inbound_status _ = 0

-- Of a call over a connection, the first of these that holds: there was no memory, an end failed, a
-- document doesn't fit, the output failed; or by how the peer's stream ended.
abbrev pub outcome_status : CallOutcome → ℕ
outcome_status o =
    if wants_memory o then 5 else if fails o then 8 else if is_unfit o.outbound then 7
    else if fails_report o.report then 4 else inbound_status o.inbound

abbrev pub status_of : Called → ℕ
status_of WrongCount = 6
status_of Starved = 5
status_of Unconnected = 8
status_of (Closed o) = outcome_status o

-- the document that doesn't fit
abbrev pub unfit_in : ClientOut → Option InputFault
unfit_in (out.Unfit number fault) = Some (inputs.Unfit number fault)
unfit_in _ = None

-- the fault of the documents that is the cause of the status, and that a note tells
abbrev pub fault_of : Called → Option InputFault
fault_of WrongCount = Some (inputs.Line 1 kinds.WrongCount)
fault_of Starved = None
fault_of Unconnected = None
fault_of (Closed o) = if wants_memory o || fails o then None else unfit_in o.outbound
