-- What has become of the writing of an end that answers a stream.
use Rattle.std.specs.Prelude.{◌≡◌, ℕ, ◌<◌, ◌≤◌, true, ◌⊎◌, List, [], ◌∷◌, ◌++◌, length, take}
use Rattle.std.specs.Prelude.{Ok, Err, Result, ⊤}
use Rattle.io_edges.specs.{declared.SinkFault.SinkFault, Faults.CountsFaults, Puts.Puts}
use Rattle.io_edges.specs.Flow.{GrowsByPrefix, Told}
use Rattle.unit_streams.specs.Tellers.{state_behind, Teller, told_along}
use Rattle.stream_loop.specs.declared.outbound.Outbound.{Outbound}
use Rattle.stream_loop.specs.declared.outbound.Outbound.TheVariants.{Done, Memory, WriteFault}
use Rattle.io_edges.specs.Views.{HoldsNothing, SinkView}
use Rattle.io_edges.specs.declared.SinkFault.TheVariants as sinks

-- by a fault of the sink
abbrev pub outbound_of : SinkFault → Outbound
outbound_of sinks.Failed = WriteFault
outbound_of sinks.Memory = Memory

-- by the answer of a call of it
abbrev pub outbound_by : Result ⊤ SinkFault → Outbound
outbound_by (Ok _) = Done
outbound_by (Err fault) = outbound_of fault

-- The writing ended so where these bytes were put: the sink failed at them, or there was no
-- memory for them. Then none were put, and what the sink held is written.
abbrev pub Ends : Outbound → SinkView → SinkView → List ℕ → Type 0
Ends Done old new bytes = ⊥
Ends WriteFault old new bytes = Puts old new bytes (Err sinks.Failed)
Ends Memory old new bytes = Puts old new bytes (Err sinks.Memory)
    ⊎ (Puts old new bytes (Ok tt) × (bytes ≡ []) × (new.held ≡ []))

-- the writing ended so where these bytes were due next: at a put of them, or before it
pub record IsCut (outbound : Outbound) (next : List ℕ) (old new : SinkView) : Type 0 where
  pub bytes : List ℕ
  pub front : (bytes ≡ []) ⊎ (bytes ≡ next)
  pub ends : Ends outbound old new bytes

-- The first n of these bytes were put, a part at a time, and then it stood so: all were put, or
-- the next put failed, and took none.
pub record PutsParts (bytes : List ℕ) (old new : SinkView) (n : ℕ) (outbound : Outbound)
    : Type 0 where
  pub answer : Result ⊤ SinkFault
  pub outbound_is : outbound ≡ outbound_by answer
  pub puts : Puts old new (take n bytes) answer
  pub exact : HoldsNothing old → Told old.written new.written (λ w w'. w' ≡ w ++ take n bytes)
  pub within : n ≤ length bytes
  pub all : outbound ≡ Done → n ≡ length bytes
  pub short : (outbound ≡ Done → ⊥) → n < length bytes

-- the bytes that were due next were put, or the writing ended so
abbrev pub Goes : Outbound → (next : List ℕ) → SinkView → SinkView → Type 0
Goes Done next old new = Puts old new next (Ok tt)
Goes WriteFault next old new = IsCut WriteFault next old new
Goes Memory next old new = IsCut Memory next old new

-- what is due for events in E, by a teller whose states are in S
module _ {S E R : Type 0} (t : Teller S E R) where
  -- what is due next, where events come and then a closing
  abbrev pub due_next : S → (closing : List ℕ) → List E → List ℕ
  due_next s closing [] = closing
  due_next s closing (event ∷ events) = t.told s event

  -- all that is due for events was put, and leaves this state
  pub record IsWriting (first : SinkView) (events : List E) (state : S) (now : SinkView)
      : Type 0 where
    pub puts : Puts first now (told_along t t.start events) (Ok tt)
    pub state_is : state ≡ state_behind t t.start events

  -- The writing ended so at what was due behind the first events, which left such a state. First
  -- bytes are written of what is due for these and of what was due next. Where the sink holds
  -- nothing back, all that is due for the first events is. Behind the last event only the sink runs
  -- out of memory.
  pub record HasStopped (outbound : Outbound) (closing : List ℕ) (first : SinkView)
      (events : List E) (Left : S → Type 0) (now : SinkView) : Type 0 where
    pub done : List E
    pub rest : List E
    pub joined : events ≡ done ++ rest
    pub left : Left (state_behind t t.start done)
    pub grown : Told first.written now.written (λ w w'. GrowsByPrefix w w' (first.held
        ++ (told_along t t.start done ++ due_next (state_behind t t.start done) closing rest)))
    pub whole : HoldsNothing first → Told first.written now.written (λ w w'.
        GrowsByPrefix (w ++ first.held ++ told_along t t.start done) w'
        (due_next (state_behind t t.start done) closing rest))
    pub emptied : now.held ≡ []
    pub counted : CountsFaults first.faults now.faults (outbound ≡ WriteFault)
    pub memory : rest ≡ [] → outbound ≡ Memory → first.may_run_out ≡ true

  -- what was written of events, by what has become of the writing
  abbrev pub Writes : Outbound → (first : SinkView) → List E → (state : S) → (Left : S → Type 0)
      → SinkView → Type 0
  Writes Done first events state Left now = IsWriting first events state now
  Writes WriteFault first events state Left now =
      HasStopped WriteFault [] first events Left now
  Writes Memory first events state Left now = HasStopped Memory [] first events Left now

  -- all that is due for events and a closing was put and is written
  pub record HasWritten (closing : List ℕ) (first : SinkView) (events : List E) (Left : S → Type 0)
      (now : SinkView) : Type 0 where
    pub puts : Puts first now (told_along t t.start events ++ closing) (Ok tt)
    pub left : Left (state_behind t t.start events)
    pub emptied : now.held ≡ []

  -- what was written of events and a closing, by what has become of the writing at last
  abbrev pub Wrote : Outbound → (closing : List ℕ) → (first : SinkView) → List E
      → (Left : S → Type 0) → SinkView → Type 0
  Wrote Done closing first events Left now = HasWritten closing first events Left now
  Wrote WriteFault closing first events Left now =
      HasStopped WriteFault closing first events Left now
  Wrote Memory closing first events Left now = HasStopped Memory closing first events Left now
