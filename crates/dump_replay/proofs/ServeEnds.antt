-- Connections that were answered, by what is known of the output where none came.
use Rattle.std.proofs.Common.{ℕ, List, Option, Result}
use Rattle.{io_edges.specs.Wires.Network}
use Rattle.duplex_server.specs.{declared.stopping.ServeFault.ServeFault, ServerStream.Answering}
use Rattle.duplex_server.specs.Served.{Ends, ServesAll}
use Rattle.io_edges.specs.Views.{SinkView}

pub served_less : (x : Answering) (endpoint : Option (List ℕ)) {R K : Type 0} (ends : R × K → Ends)
    (most : ℕ) (n n' : Network R K) (o o' : SinkView) (stop : Result (Unit {0}) ServeFault)
    (Same Less : Type 0) → (Same → Less)
    → ServesAll x endpoint ends most n n' o o' Same stop
    → ServesAll x endpoint ends most n n' o o' Less stop
served_less x endpoint ends most n n' o o' stop Same Less less h = record {
  connections = h.connections;
  each = h.each;
  few = h.few;
  stopped = h.stopped;
  wire_counted = h.wire_counted;
  lines = h.lines;
  held = h.held;
  untouched = λ none. less (h.untouched none);
  output_counted = h.output_counted;
}
