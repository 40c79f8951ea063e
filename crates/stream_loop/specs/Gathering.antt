-- What has become of the writing of an end that gathers what is due before it puts it to a sink.
use Rattle.std.specs.Prelude.{◌≡◌, ℕ, ◌<◌, List, [], ◌∷◌, ◌++◌, length, take, Ok}
use Rattle.unit_streams.specs.Tellers.{Teller, told_along, state_behind}
use Rattle.stream_loop.specs.declared.outbound.Outbound.{Outbound}
use Rattle.stream_loop.specs.declared.outbound.Outbound.TheVariants.{Done, WriteFault, Memory}
use Rattle.stream_loop.specs.Writing.{HasStopped}
use Rattle.io_edges.specs.Views.{SinkView}
use Rattle.io_edges.specs.Puts.{Puts}

module _ {S E R : Type 0} (t : Teller S E R) where
  -- Bytes that were put and the first n of those that are gathered behind them: what is due for the
  -- first of these events, and first bytes of what is due for the next one.
  pub record CutsAt (put gathered : List ℕ) (events : List E) (Left : S → Type 0) (n : ℕ) : Type 0
    where
      pub done : List E
      pub next : E
      pub rest : List E
      pub joined : events ≡ done ++ next ∷ rest
      pub left : Left (state_behind t t.start done)
      pub kept : ℕ
      pub bytes : put ++ take n gathered ≡ told_along t t.start done
          ++ take kept (t.told (state_behind t t.start done) next)

module _ {S E R : Type 0} (t : Teller S E R) where
  -- Of all that is due for events the first bytes were put, and the others are gathered. Wherever
  -- these are cut, the state that is left behind the events before is such a one.
  pub record IsGathering (first : SinkView) (events : List E) (state : S) (Left : ℕ → S → Type 0)
      (gathered : List ℕ) (now : SinkView) : Type 0 where
    pub put : List ℕ
    pub puts : Puts first now put (Ok tt)
    pub split : told_along t t.start events ≡ put ++ gathered
    pub state_is : state ≡ state_behind t t.start events
    pub cuts : (n : ℕ) → n < length gathered → CutsAt t put gathered events (Left n) n

  -- what was written and gathered of events, by what has become of the writing
  abbrev pub Gathers : Outbound → (first : SinkView) → List E → (state : S)
      → (Left : ℕ → S → Type 0) → (Stopped : S → Type 0) → (gathered : List ℕ) → SinkView → Type 0
  Gathers Done first events state Left Stopped gathered now =
      IsGathering first events state Left gathered now
  Gathers WriteFault first events state Left Stopped gathered now =
      HasStopped t WriteFault [] first events Stopped now
  Gathers Memory first events state Left Stopped gathered now =
      HasStopped t Memory [] first events Stopped now
