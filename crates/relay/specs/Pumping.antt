-- One direction of two sessions that were opened: where it begins, and what was read and written of
-- it at its end.
use Rattle.std.specs.Prelude.{◌≡◌, Bool, true, List}
use Rattle.io_edges.specs.{Faults.CountsFaults, Views.SinkView}
use Rattle.stream_reader.specs.Stream.{Settings, stream}
use Rattle.stream_loop.specs.{Edges.Input, Followed.Follows}
use Rattle.session_report.specs.declared.reading.Event.{Event}
use Rattle.relay.specs.declared.{carrier.Carrier.Carrier, listener.Listener.Listener}
use Rattle.relay.specs.declared.outcome.Pump.{Pump}
use Rattle.relay.specs.{Beginning.Comes, Outcomes.ending_of}
use Rattle.relay.specs.Events.{has_begun, said}
use Rattle.relay.specs.Carried.{carried_by, Carries, Carrying, EndsSo, last_of}
use Rattle.relay.specs.Writing.{carrying_of, HasCarried, IsGoing, IsNamed}
use Rattle.relay.specs.declared.outcome.PumpIn.TheVariants as ins

module _ (y : Settings) (i : Input) (x : Carrying) (first : SinkView) where
  -- such a stream was read since the source was like this, and the sink like the first, and what is
  -- due for its events was written
  pub record IsReady (events : List Event) (l : Listener) (c : Carrier) (i' : Input)
      (now : SinkView) : Type 0
    where
      pub comes : Comes y i i' (λ handled. handled ≡ events) l
      pub carried : HasCarried x first events c now
      pub set : carrying_of c ≡ x
      pub going : IsGoing c

  -- its events, and the ending of its reading, say what was written in all
  pub record IsPumped (pump : Pump) (now : SinkView) (events : List Event) : Type 0 where
    pub carries : Carries x (last_of pump.read (carried_by x events)) events first now pump
    pub ends : EndsSo pump.read events
    pub opened : has_begun x.side events ≡ true
    pub named : IsNamed x events

  abbrev pub HasPumped : Input → SinkView → Pump → Type 0
  HasPumped i' now pump = Follows (stream y) (λ all. IsPumped pump now (said all)) i i'
      (ending_of pump.read)

-- a direction may go on, from such a source to such a sink
abbrev pub CanPump : {S K : Type 0} → (input_of : S → Input) → (view : K → SinkView) → Listener
    → Carrier → S → K → Type 0
CanPump {S} {K} input_of view l c source sink = (y : Settings) × (i : Input) × (x : Carrying)
    × (first : K) × (events : List Event)
    × IsReady y i x (view first) events l c (input_of source) (view sink)

-- it has gone on to its end
pub record Pumps {S K : Type 0} (input_of : S → Input) (view : K → SinkView) (ended : K → Bool)
    (l : Listener) (c : Carrier) (source source' : S) (sink sink' : K) (pump : Pump) : Type 0 where
  pub pumped : (y : Settings) (i : Input) (x : Carrying) (first : K) (events : List Event)
      → IsReady y i x (view first) events l c (input_of source) (view sink)
      → HasPumped y i x (view first) (input_of source') (view sink') pump
  pub opened : pump.read ≡ ins.NotOpened → ⊥
  pub counted : CountsFaults (input_of source).faults (input_of source').faults
      (pump.read ≡ ins.ReadFault)
  pub is_ended : ended sink' ≡ true
