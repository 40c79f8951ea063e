-- A session that was opened with the back, behind the front's preamble.
use Rattle.std.proofs.Common.{◌≡◌, List, ◌∙◌}
use Rattle.io_edges.specs.Views.{SinkView}
use Rattle.nbfx_values.specs.declared.session.{Kind.Kind, Mode.Mode}
use Rattle.nbfx_encoder.specs.declared.sender.Side.TheVariants.{Initiator}
use Rattle.stream_loop.specs.{Edges.Input}
use Rattle.session_report.specs.declared.reading.Event.{Event}
use Rattle.relay.specs.declared.{beginning.Begun.TheVariants.Opened, carrier.Carrier.Carrier}
use Rattle.relay.specs.declared.listener.Listener.{Listener}
use Rattle.relay.specs.{Beginning.Begins, Beginning.BeginsSo, Carried.Carrying}
use Rattle.relay.specs.{Joining.IsOpened, Relayed.front_of, Relayed.Relay, Relayed.to_back}
use Rattle.relay.specs.Writing.{carrying_of, HasCarried, IsGoing, IsNamed}
use Rattle.relay.proofs.Known.{sent_on}

pub opened_now : (x : Relay) (mode : Mode) (kind : Kind) (fi fi' : Input) (bo bo' : SinkView)
    (front : Listener) (begins : Begins (front_of x) fi fi' Initiator (Opened mode kind) front)
    (z : Carrying) (set : z ≡ to_back x mode kind) (c : Carrier)
    → ((events : List Event) → BeginsSo z.side events (Opened mode kind) → IsNamed z events
    → HasCarried z bo events c bo')
    → carrying_of c ≡ z → IsGoing c → IsOpened x mode kind fi fi' bo bo' front c
opened_now x mode kind fi fi' bo bo' front begins z set c carried same going = record {
  events = begins.events;
  begins_so = begins.begins_so;
  stops = begins.stops;
  ready = record {
    comes = begins.comes;
    carried = sent_on x mode kind fi fi' bo bo' front begins z set c carried;
    set = same ∙ set;
    going = going;
  };
}
