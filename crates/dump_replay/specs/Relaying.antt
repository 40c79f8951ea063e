-- What the command that joins sessions leaves, by why it stopped.
use Rattle.std.specs.Prelude.{◌≡◌, ℕ, List, Some, None, Ok, Err, Option, Result, ⊤}
use Rattle.io_edges.specs.{Files.Has, Files.whole, Store.Store, Views.SinkView, Wires.Network}
use Rattle.{string_tables.specs.StaticStrings.Entry, stream_loop.specs.Edges.Input}
use Rattle.command_words.specs.{Requests.TwoLimits, Tasks.Relaying}
use Rattle.relay.specs.{declared.stopping.RelayFault.RelayFault, Connections.Ends}
use Rattle.relay.specs.{Connections.RelaysAll, Relayed.Relay}
use Rattle.dump_replay.specs.{Outside.Outside, Running.note_of, Statics.reading_statics}
use Rattle.dump_replay.specs.declared.relaying.UnreadStatics.{UnreadStatics}
use Rattle.io_edges.specs.declared.fault.FileFault.TheVariants as faults
use Rattle.relay.specs.declared.stopping.RelayFault.TheVariants as stops

-- the static strings of the sessions that are opened: those of the file with this name, or of the
-- peers' sessions
abbrev pub IsBack : Option Store → Option (List ℕ) → (front back : List Entry) → Type 0
IsBack files None front back = back ≡ front
IsBack files (Some name) front back = Has reading_statics files name (whole back)

-- and by the table that there may be
abbrev pub back_or : (front : List Entry) → Option (List Entry) → List Entry
back_or front None = front
back_or front (Some back) = back

-- the file isn't read since the fetch failed
abbrev pub HasFailedBack : Result (Option (List Entry)) UnreadStatics → Type 0
HasFailedBack (Ok back) = ⊥
HasFailedBack (Err unread) = unread.fault ≡ faults.Failed

-- what sessions are joined by
abbrev pub joining_by : Relaying → (front back : List Entry) → TwoLimits → Relay
joining_by relaying front back limits = record {
  front = front;
  back = back;
  forward = limits.forward;
  backward = limits.back;
  endpoint = relaying.endpoint;
  via = relaying.via;
}

-- the status of a relay that stopped so
abbrev pub status_of_relay : Result ⊤ RelayFault → ℕ
status_of_relay (Ok _) = 0
status_of_relay (Err stops.Wire) = 8
status_of_relay (Err stops.Output) = 4
status_of_relay (Err stops.Memory) = 5

-- the ends of a connection, by what is seen of each
abbrev pub sides_seen : {R K : Type 0} → (reader : R → Input) → (writer : K → SinkView) → R × K
    → Ends
sides_seen reader writer ends = record { input = reader ends.0; sink = writer ends.1 }

-- The sessions of as many peers as were asked for at most were joined with sessions of a server,
-- with the status and the note of why no more were. `Says` is what is known of the note with a text.
pub record Joined (Says : List ℕ → Type 0) (x : Relay) {R K : Type 0} (seen : R × K → Ends)
    (connections : ℕ) (n n' : Network R K) (o o' : SinkView) (status : ℕ) : Type 0 where
  pub stop : Result ⊤ RelayFault
  pub status_is : status ≡ status_of_relay stop
  pub relays : RelaysAll x seen connections n n' o o' (o' ≡ o) stop
  pub says : Says (note_of status)

-- This was done with the static strings that are asked for. The input isn't read. `reader` and
-- `writer` are what is seen of the ends of a connection.
pub record RelayedAll (Says : List ℕ → Type 0) {R K : Type 0} (reader : R → Input)
    (writer : K → SinkView) (relaying : Relaying) (statics : List Entry) (limits : TwoLimits)
    (old new : Outside R K) (status : ℕ) : Type 0 where
  pub back : List Entry
  pub back_is : IsBack old.shelf.files relaying.back_statics statics back
  pub joined : Joined Says (joining_by relaying statics back limits) (sides_seen reader writer)
      relaying.connections old.wire new.wire old.output new.output status
  pub unread : new.input ≡ old.input
