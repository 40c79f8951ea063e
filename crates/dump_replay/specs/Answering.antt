-- What the command that answers an initiator's stream leaves, by how that ended.
use Rattle.std.specs.Prelude.{◌≡◌, ℕ, List, [], Some, None, codes, Option}
use Rattle.{io_edges.specs.Store.Store, string_tables.specs.StaticStrings.Entry}
use Rattle.{command_words.specs.Requests.TwoLimits, session_report.specs.Report.offence_line}
use Rattle.stream_loop.specs.{declared.outbound.Outbound.Outbound, Edges.Input}
use Rattle.command_words.specs.Tasks.{Serving}
use Rattle.action_dispatch.specs.declared.fault.ActionKind.{ActionKind, TheVariants.Repeated}
use Rattle.action_dispatch.specs.declared.fault.ActionKind.TheVariants.{Fields, Header, NotUtf8}
use Rattle.duplex_server.specs.{declared.outcome.Inbound.Inbound, ServerStream.Answering}
use Rattle.duplex_server.specs.{Replaying.Replays}
use Rattle.duplex_server.specs.declared.responding.Responder.{Responder, TheVariants.Echo}
use Rattle.duplex_server.specs.Responding.{GivesTexts, served_by}
use Rattle.dump_replay.specs.Running.{note_of, offence_status}
use Rattle.io_edges.specs.Views.{SinkView}
use Rattle.stream_loop.specs.declared.outbound.Outbound.TheVariants as outbounds
use Rattle.duplex_server.specs.declared.outcome.Inbound.TheVariants as inbounds

-- ---- statuses and notes

-- by how the reading ended
abbrev pub status_of_inbound : Inbound → ℕ
status_of_inbound inbounds.Ended = 0
status_of_inbound (inbounds.Offended o) = offence_status o
status_of_inbound inbounds.ReadFault = 3
status_of_inbound inbounds.Memory = 5

-- where a write failed: want of memory goes first
abbrev pub status_of_write_fault : Inbound → ℕ
status_of_write_fault inbounds.Memory = 5
status_of_write_fault inbound = 4

-- the status of a run that ends so: the first that holds of 5, 4, 3, 10, 1 and 0
abbrev pub status_of_replay : Inbound → Outbound → ℕ
status_of_replay inbound outbounds.Done = status_of_inbound inbound
status_of_replay inbound outbounds.WriteFault = status_of_write_fault inbound
status_of_replay inbound outbounds.Memory = 5

abbrev pub note_of_inbound : Inbound → List ℕ
note_of_inbound inbounds.Ended = []
note_of_inbound (inbounds.Offended o) = offence_line o
note_of_inbound inbounds.ReadFault = note_of 3
note_of_inbound inbounds.Memory = note_of 5

-- and its note: the line of the offence, where that gives the status
abbrev pub note_of_replay : Inbound → Outbound → List ℕ
note_of_replay inbound outbounds.Done = note_of_inbound inbound
note_of_replay inbound outbounds.WriteFault = note_of (status_of_write_fault inbound)
note_of_replay inbound outbounds.Memory = note_of 5

-- what is wrong with a row of actions, as a note says it
abbrev pub action_kind_name : ActionKind → List ℕ
action_kind_name Header = codes "Header"
action_kind_name Fields = codes "Fields"
action_kind_name NotUtf8 = codes "NotUtf8"
action_kind_name Repeated = codes "Repeated"

-- ---- what is left

-- the service that is asked for: the echo, or the texts of the file with this name
abbrev pub IsAskedFor : Option Store → Option (List ℕ) → Responder → Type 0
IsAskedFor files None responder = responder ≡ Echo
IsAskedFor files (Some name) responder = GivesTexts files name responder

-- how streams are answered by a service, with these static strings and limits
abbrev pub answering_by : Responder → List Entry → TwoLimits → Answering
answering_by responder statics limits = record {
  serves = served_by responder;
  statics = statics;
  forward = limits.forward;
  back = limits.back;
}

-- An initiator's stream was answered so, by the service that is asked for, with the status and the
-- note of how that ended; Says is what is known of the note with a text.
pub record Answered (Says : List ℕ → Type 0) (files : Option Store) (serving : Serving)
    (statics : List Entry) (limits : TwoLimits) (i i' : Input) (o o' : SinkView) (status : ℕ)
    : Type 0 where
  pub responder : Responder
  pub asked_for : IsAskedFor files serving.actions responder
  pub inbound : Inbound
  pub outbound : Outbound
  pub status_is : status ≡ status_of_replay inbound outbound
  pub replays : Replays (answering_by responder statics limits) serving.endpoint i i' o o'
      inbound outbound
  pub says : Says (note_of_replay inbound outbound)
