-- What is known of a session that was answered, by what is seen of the input and of the output.
use Rattle.std.proofs.Common.{◌≡◌, ℕ, List, [], map, Option, sym, refl, append-nil}
use Rattle.{io_edges.specs.Flow.Told, nbfx_values.specs.Limits.IsGood}
use Rattle.unit_streams.specs.Judging.{events_in, events_of}
use Rattle.stream_reader.specs.Stream.{ends, stream, StreamEvent}
use Rattle.stream_loop.proofs.{Amounts.wrote_grew, Grown.all_written, LoopSteps.first_pending}
use Rattle.stream_loop.proofs.Taking.{follows_as, unbegun}
use Rattle.stream_loop.proofs.Writing.{counted_none, known_told}
use Rattle.stream_loop.specs.{declared.outbound.Outbound.Outbound, Writing.Wrote}
use Rattle.stream_loop.specs.Edges.{Input}
use Rattle.duplex_server.specs.declared.outcome.{Inbound.Inbound, Outcome.Outcome}
use Rattle.duplex_server.specs.ServerStream.{Answering, replies, requests_to}
use Rattle.duplex_server.specs.Replaying.{owed_for_events, Replays, WritesEvents}
use Rattle.duplex_server.specs.Requests.{request_for}
use Rattle.duplex_server.specs.Serving.{closing_of, ending_of, HasServed, Serves}
use Rattle.duplex_server.proofs.Streams.{ends_within}
use Rattle.io_edges.specs.Views.{SinkView}
use Rattle.stream_loop.specs.declared.outbound.Outbound.TheVariants as outbounds
use Rattle.duplex_server.specs.declared.outcome.Inbound.TheVariants as inbounds

module _ (x : Answering) (endpoint : Option (List ℕ)) (i i' : Input) where
  -- what is written to a sink, by what it tells
  module _ (first now : SinkView) where
    writes : (inbound : Inbound) (events : List StreamEvent) (answers : ℕ) (outbound : Outbound)
        → Wrote (replies x) outbound (closing_of (ending_of inbound))
        first (map request_for events) (λ s. answers ≡ s.answers) now
        → Told first.written now.written (WritesEvents x first.held events inbound outbound)
    writes inbound events answers outbounds.Done h =
        known_told (WritesEvents x first.held events inbound outbounds.Done) first.written
        now.written (all_written first now
        (owed_for_events x events inbound) h.puts h.emptied)
    writes inbound events answers outbounds.WriteFault h =
        known_told (WritesEvents x first.held events inbound outbounds.WriteFault)
        first.written now.written (wrote_grew (replies x)
        outbounds.WriteFault (closing_of (ending_of inbound)) first (map request_for events)
        (λ s. answers ≡ s.answers) now h)
    writes inbound events answers outbounds.Memory h =
        known_told (WritesEvents x first.held events inbound outbounds.Memory)
        first.written now.written (wrote_grew (replies x)
        outbounds.Memory (closing_of (ending_of inbound)) first (map request_for events)
        (λ s. answers ≡ s.answers) now h)

    pub replayed : (outcome : Outcome)
        → Serves x endpoint i i' first now outcome
        → Replays x endpoint i i' first
        now outcome.inbound outcome.outbound
    replayed outcome h = record {
      judged = h.judged;
      written = h.written;
      follows = follows_as (stream (requests_to x endpoint))
          (HasServed x outcome first now) (λ events.
          Told first.written now.written
          (WritesEvents x first.held events outcome.inbound outcome.outbound)) i i'
          (ending_of outcome.inbound)
          (λ events s. writes outcome.inbound events outcome.answers outcome.outbound s.wrote)
          h.follows;
      reads_counted = h.reads_counted;
      writes_counted = h.writes_counted;
    }

-- there was no memory to begin with
pub unbegun_so : (x : Answering) (endpoint : Option (List ℕ)) (i : Input) (o : SinkView)
    → IsGood x.forward → Replays x endpoint i i o o inbounds.Memory outbounds.Memory
unfolding events_of events_in
unbegun_so x endpoint i o good = record {
  judged = λ bytes left. tt;
  written = λ bytes w left before. (w, before, record { kept = 0; grown = sym (append-nil w) });
  follows = unbegun (stream (requests_to x endpoint)) _ i
      (first_pending (stream (requests_to x endpoint)) ends x.forward.session
      (ends_within (requests_to x endpoint) good))
      (known_told (WritesEvents x o.held [] inbounds.Memory outbounds.Memory) o.written o.written
      (λ w e. (w, e, record { kept = 0; grown = sym (append-nil w) })));
  reads_counted = counted_none _ _ _ refl (λ e. cc);
  writes_counted = counted_none _ _ _ refl (λ e. cc);
}
