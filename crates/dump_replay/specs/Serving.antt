-- What the command that answers connections leaves, by why it stopped.
use Rattle.std.specs.Prelude.{◌≡◌, ℕ, List, Ok, Err, Result, ⊤}
use Rattle.{string_tables.specs.StaticStrings.Entry, command_words.specs.Requests.TwoLimits}
use Rattle.stream_loop.specs.Edges.{Input}
use Rattle.{command_words.specs.Tasks.Serving}
use Rattle.duplex_server.specs.declared.responding.Responder.{Responder}
use Rattle.duplex_server.specs.{declared.stopping.ServeFault.ServeFault, Served.ServesAll}
use Rattle.dump_replay.specs.{Answering.answering_by, Answering.IsAskedFor, Running.note_of}
use Rattle.dump_replay.specs.Outside.{ends_seen, Outside}
use Rattle.io_edges.specs.Views.{SinkView}
use Rattle.duplex_server.specs.declared.stopping.ServeFault.TheVariants as stops

-- the status of a server that stopped so
abbrev pub status_of_stop : Result ⊤ ServeFault → ℕ
status_of_stop (Ok _) = 0
status_of_stop (Err stops.Wire) = 8
status_of_stop (Err stops.Output) = 4
status_of_stop (Err stops.Memory) = 5

-- Connections were answered so, as many as were asked for at most, by the service that is asked
-- for, with the status and the note of why no more were. The input isn't read. `Says` is what is
-- known of the note with a text, and `reader` and `writer` are what is seen of the ends of a
-- connection.
pub record AnsweredAll (Says : List ℕ → Type 0) {R K : Type 0} (reader : R → Input)
    (writer : K → SinkView) (connections : ℕ) (serving : Serving) (statics : List Entry)
    (limits : TwoLimits) (old new : Outside R K) (status : ℕ) : Type 0 where
  pub responder : Responder
  pub asked_for : IsAskedFor old.shelf.files serving.actions responder
  pub stop : Result ⊤ ServeFault
  pub status_is : status ≡ status_of_stop stop
  pub serves : ServesAll (answering_by responder statics limits) serving.endpoint
      (ends_seen reader writer) connections old.wire new.wire old.output new.output
      (new.output ≡ old.output) stop
  pub says : Says (note_of status)
  pub unread : new.input ≡ old.input
