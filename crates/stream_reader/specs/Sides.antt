-- Whose stream a reader is set to, by its code's types.
use Rattle.std.specs.Prelude.{ℕ, Bool, true, List, Some, None, Option, bytes_eq}
use Rattle.stream_reader.specs.declared.side.{Endpoint.Endpoint, Side.Side as SideRead}
use Rattle.stream_reader.specs.Stream.{initiators, receivers, Side}
use Rattle.stream_reader.specs.declared.side.Endpoint.TheVariants as endpoints
use Rattle.stream_reader.specs.declared.side.Side.TheVariants as sides

abbrev pub endpoint_of : Endpoint → Option (List ℕ)
endpoint_of endpoints.Any = None
endpoint_of (endpoints.Only via) = Some via

abbrev pub side_of : SideRead → Side
side_of (sides.Initiator endpoint) = initiators (endpoint_of endpoint)
side_of (sides.Receiver mode kind) = receivers mode kind

abbrev pub serves_via : Endpoint → List ℕ → Bool
serves_via endpoints.Any via = true
serves_via (endpoints.Only endpoint) via = bytes_eq endpoint via
