-- What was read of a side up to what begins its session.
use Rattle.std.specs.Prelude.{◌≡◌, ℕ, false, List, [], ◌∷◌, ◌++◌, Some, None, Option}
use Rattle.nbfx_encoder.specs.declared.sender.Side.{Side}
use Rattle.nbfx_encoder.specs.declared.sender.Side.TheVariants.{Initiator, Receiver}
use Rattle.stream_reader.specs.Stream.{Settings, stream}
use Rattle.stream_reader.specs.StreamReaderState.{settings_of, StandsFor}
use Rattle.stream_loop.specs.{Edges.Input, Followed.Follows, Resumed.HasComeTo}
use Rattle.stream_loop.specs.declared.following.FollowEnding.TheVariants.{Memory}
use Rattle.session_report.specs.declared.reading.Event.{Event}
use Rattle.relay.specs.declared.beginning.{Beginning.Beginning, Begun.Begun}
use Rattle.relay.specs.declared.{listener.Listener.Listener, outcome.PumpIn.PumpIn}
use Rattle.relay.specs.Events.{faulted_along, has_begun, said}
use Rattle.relay.specs.{Carried.EndsSo, Outcomes.ending_of}
use Rattle.relay.specs.declared.beginning.Begun.TheVariants as begun
use Rattle.session_report.specs.declared.reading.Event.TheVariants as heard

-- what an event begins, of the session that is written as this end
abbrev pub begun_at : Event → Side → Option Begun
begun_at (heard.Opened mode kind via) Initiator = Some (begun.Opened mode kind)
begun_at heard.Accepted Receiver = Some begun.Accepted
begun_at event side = None

-- these events were handled, of which none begins it
pub record HasWaited (handled : List Event) (b : Beginning) : Type 0 where
  pub unbegun : has_begun b.side handled ≡ false
  pub faulted_is : b.faulted ≡ faulted_along false handled

-- and then this one, which does
pub record HasBegun (handled : List Event) (at : Option Event) (halt : Begun) (b : Beginning)
    : Type 0 where
  pub unbegun : has_begun b.side handled ≡ false
  pub event : Event
  pub at_is : at ≡ Some event
  pub begins_so : begun_at event b.side ≡ Some halt

-- these are the events of a side up to what begins its session
pub record BeginsSo (side : Side) (events : List Event) (halt : Begun) : Type 0 where
  pub before : List Event
  pub event : Event
  pub joined : events ≡ before ++ event ∷ []
  pub unbegun : has_begun side before ≡ false
  pub begins_so : begun_at event side ≡ Some halt

module _ (y : Settings) (i i' : Input) where
  -- a side was read since the source was like the first, and such events of it were handled
  pub record Comes (Handled : List Event → Type 0) (l : Listener) : Type 0 where
    pub grammar : stream (settings_of l.end.reader) ≡ stream y
    pub read : List ℕ
    pub come : HasComeTo (stream y) i i' (StandsFor l.end.reader)
        (λ paused since. Handled (said paused ++ said since)) read l.buffer

  -- it was read up to what begins its session
  pub record Begins (side : Side) (halt : Begun) (l : Listener) : Type 0 where
    pub events : List Event
    pub begins_so : BeginsSo side events halt
    pub stops : Follows (stream y) (λ all. said all ≡ events) i i' Memory
    pub comes : Comes (λ handled. handled ≡ events) l

  -- its stream ended so before that, or no more of it is read
  abbrev pub EndsBefore : Side → PumpIn → Type 0
  EndsBefore side read = Follows (stream y) (λ all. (has_begun side (said all) ≡ false)
      × EndsSo read (said all)) i i' (ending_of read)
