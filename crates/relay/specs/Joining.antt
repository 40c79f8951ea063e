-- A session that was opened with the back, behind the front's preamble.
use Rattle.std.specs.Prelude.{◌≡◌, List}
use Rattle.io_edges.specs.Views.{SinkView}
use Rattle.nbfx_values.specs.declared.session.{Kind.Kind, Mode.Mode}
use Rattle.nbfx_encoder.specs.declared.sender.Side.TheVariants.{Initiator}
use Rattle.stream_reader.specs.Stream.{stream}
use Rattle.stream_loop.specs.{Edges.Input, Followed.Follows}
use Rattle.stream_loop.specs.declared.following.FollowEnding.TheVariants.{Memory}
use Rattle.session_report.specs.declared.reading.Event.{Event}
use Rattle.relay.specs.declared.{beginning.Begun.TheVariants.Opened, carrier.Carrier.Carrier}
use Rattle.relay.specs.declared.listener.Listener.{Listener}
use Rattle.relay.specs.{Beginning.BeginsSo, Events.said, Pumping.IsReady}
use Rattle.relay.specs.Relayed.{front_of, Relay, to_back}

-- these are the events of the front up to its preamble, and the back's was written for them
pub record IsOpened (x : Relay) (mode : Mode) (kind : Kind) (fi fi' : Input) (bo bo' : SinkView)
    (l : Listener) (c : Carrier) : Type 0 where
  pub events : List Event
  pub begins_so : BeginsSo Initiator events (Opened mode kind)
  pub stops : Follows (stream (front_of x)) (λ all. said all ≡ events) fi fi' Memory
  pub ready : IsReady (front_of x) fi (to_back x mode kind) bo events l c fi' bo'
