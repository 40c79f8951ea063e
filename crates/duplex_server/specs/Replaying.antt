-- What is read and written of a session that is answered, however that ends. The output may have
-- held bytes before, which are written before what is put.
use Rattle.std.specs.Prelude.{◌≡◌, ℕ, List, ◌++◌, map, Option}
use Rattle.io_edges.specs.{Flow.GrowsByPrefix, Flow.Told}
use Rattle.{unit_streams.specs.Tellers.told_along, duplex_server.specs.Requests.request_for}
use Rattle.stream_reader.specs.Stream.{StreamEvent}
use Rattle.stream_loop.specs.{declared.outbound.Outbound.Outbound, Edges.Input}
use Rattle.stream_loop.specs.declared.outbound.Outbound.TheVariants.{Done}
use Rattle.duplex_server.specs.declared.outcome.Inbound.{Inbound}
use Rattle.duplex_server.specs.ServerStream.{Answering, replies, start}
use Rattle.duplex_server.specs.Serving.{closing_of, ending_of, IsAnswered}
use Rattle.io_edges.specs.Views.{SinkView}

module _ (x : Answering) where
  -- what is owed for these events, and at last
  abbrev pub owed_for_events : List StreamEvent → Inbound → List ℕ
  owed_for_events events inbound =
      told_along (replies x) (start x.statics) (map request_for events)
      ++ closing_of (ending_of inbound)

  -- what is owed for these events is written, behind what was held; or, where the writing ended
  -- before, first bytes of that
  abbrev pub WritesEvents : (held : List ℕ) → List StreamEvent → Inbound → Outbound
      → (w w' : List ℕ) → Type 0
  WritesEvents held events inbound Done w w' = w' ≡ w ++ held ++ owed_for_events events inbound
  WritesEvents held events inbound outbound w w' =
      GrowsByPrefix w w' (held ++ owed_for_events events inbound)

  -- What is known of a session that was answered, to the Via that is served alone or to any, of
  -- which no messages and answers are counted: of the events that were answered, what is written of
  -- them.
  abbrev pub Replays : (endpoint : Option (List ℕ)) → (i i' : Input) → (o o' : SinkView) → Inbound
      → Outbound → Type 0
  Replays endpoint i i' o o' inbound outbound = IsAnswered x endpoint (λ events.
      Told o.written o'.written (WritesEvents o.held events inbound outbound)) inbound outbound i
      i' o o'
