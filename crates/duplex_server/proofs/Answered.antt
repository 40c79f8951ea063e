-- What is held where a connection is over, however the writing ended.
use Rattle.std.proofs.Common.{◌≡◌, ℕ, List, [], map, Option}
use Rattle.stream_reader.specs.Stream.{stream}
use Rattle.stream_loop.{proofs.Counts.handled_some, specs.Edges.Input, specs.Writing.Wrote}
use Rattle.stream_loop.specs.declared.outbound.Outbound.{Outbound}
use Rattle.stream_loop.specs.declared.outbound.Outbound.TheVariants.{Done, Memory, WriteFault}
use Rattle.duplex_server.specs.declared.{outcome.Outcome.Outcome, requests.Request.Request}
use Rattle.duplex_server.specs.{ServerStream.Answering, ServerStream.replies}
use Rattle.duplex_server.specs.{ServerStream.requests_to}
use Rattle.duplex_server.specs.{Requests.request_for, Serving.closing_of, Serving.ending_of}
use Rattle.duplex_server.specs.Serving.{HasServed, Serves}
use Rattle.io_edges.specs.Views.{SinkView}

module _ (x : Answering) where
  wrote_empties : (first now : SinkView) (answers : ℕ) (closing : List ℕ)
      (requests : List Request) (o : Outbound)
      → Wrote (replies x) o closing first requests (λ s. answers ≡ s.answers) now → now.held ≡ []
  wrote_empties first now answers closing requests Done wrote = wrote.emptied
  wrote_empties first now answers closing requests WriteFault wrote = wrote.emptied
  wrote_empties first now answers closing requests Memory wrote = wrote.emptied

  pub serves_empties : (endpoint : Option (List ℕ)) (i i' : Input) (first now : SinkView)
      (outcome : Outcome) → Serves x endpoint i i' first now outcome → now.held ≡ []
  serves_empties endpoint i i' first now outcome h =
      let s = handled_some (stream (requests_to x endpoint)) (HasServed x outcome first now) i i'
      (ending_of outcome.inbound) h.follows in
      wrote_empties first now outcome.answers (closing_of (ending_of outcome.inbound))
      (map request_for s.0) outcome.outbound s.1.wrote
