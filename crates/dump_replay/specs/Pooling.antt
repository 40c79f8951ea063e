-- What the command that answers connections at once leaves, by why it stopped.
use Rattle.std.specs.Prelude.{◌≡◌, ℕ, ◌⊎◌, List, Err, Option, Result, ⊤}
use Rattle.io_edges.specs.{Views.SinkView, Wires.Network}
use Rattle.session_pool.specs.PoolLines.{PoolsAndTells}
use Rattle.{string_tables.specs.StaticStrings.Entry, stream_loop.specs.Edges.Input}
use Rattle.command_words.specs.{Requests.TwoLimits, Tasks.Serving}
use Rattle.duplex_server.specs.declared.{responding.Responder.Responder, stopping.ServeFault.ServeFault}
use Rattle.duplex_server.specs.{Served.Ends, ServerStream.Answering}
use Rattle.dump_replay.specs.{Answering.answering_by, Answering.IsAskedFor, Running.note_of}
use Rattle.dump_replay.specs.{Outside.ends_seen, Outside.Outside, Serving.status_of_stop}
use Rattle.duplex_server.specs.declared.stopping.ServeFault.TheVariants as stops

-- connections were answered at once and their lines were put, or there was no memory to ask for one
abbrev pub PoolsOrNot : Answering → (endpoint : Option (List ℕ)) → (sessions : ℕ) → {R K : Type 0}
    → (R × K → Ends) → (connections : ℕ) → (n n' : Network R K) → (o o' : SinkView)
    → Result ⊤ ServeFault → Type 0
PoolsOrNot x endpoint sessions seen connections n n' o o' stop =
    ((stop ≡ Err stops.Memory) × (n' ≡ n) × (o' ≡ o))
    ⊎ PoolsAndTells x endpoint sessions seen connections n n' o o' stop

-- Connections were answered at once, as many as were asked for at most, so many sessions of each at
-- most, by the service that is asked for, with the status and the note of why no more were. The
-- input isn't read. `Says` is what is known of the note with a text, and `reader` and `writer` are
-- what is seen of the ends of a connection.
pub record PooledAll (Says : List ℕ → Type 0) {R K : Type 0} (reader : R → Input)
    (writer : K → SinkView) (connections sessions : ℕ) (serving : Serving) (statics : List Entry)
    (limits : TwoLimits) (old new : Outside R K) (status : ℕ) : Type 0 where
  pub responder : Responder
  pub asked_for : IsAskedFor old.shelf.files serving.actions responder
  pub stop : Result ⊤ ServeFault
  pub status_is : status ≡ status_of_stop stop
  pub pools : PoolsOrNot (answering_by responder statics limits) serving.endpoint sessions
      (ends_seen reader writer) connections old.wire new.wire old.output new.output stop
  pub says : Says (note_of status)
  pub unread : new.input ≡ old.input
