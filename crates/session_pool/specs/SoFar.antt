-- What was served of a connection so far.
use Rattle.std.specs.Prelude.{ℕ, List, Option}
use Rattle.stream_loop.specs.{Edges.Input, Followed.WasTaken}
use Rattle.duplex_server.specs.declared.outcome.Outcome.{Outcome}
use Rattle.duplex_server.specs.ServerStream.{Answering}
use Rattle.io_edges.specs.Views.{SinkView}
use Rattle.session_pool.specs.Turns.{InTurn}

-- These sessions were served well, since the input and the sink were like the first, and they are
-- like this now. The next one begins with the bytes that are carried.
pub record IsSoFar (x : Answering) (endpoint : Option (List ℕ)) (i i' : Input)
    (sink sink' : SinkView) (carried : List ℕ) (served : List Outcome) : Type 0 where
  pub next : Input
  pub in_turn : InTurn x endpoint i sink served next sink'
  pub taken : WasTaken carried next i'
