-- What a reporter has put of the events of a stream so far.
use Rattle.std.specs.Prelude.{List, ◌++◌, Err, Option}
use Rattle.io_edges.specs.{declared.SinkFault.SinkFault, Flow.Told}
use Rattle.unit_streams.specs.Tellers.{Teller, told_along}
use Rattle.stream_loop.specs.{Reported.Grows, Resumed.then_at, Writing.IsWriting}
use Rattle.io_edges.specs.Views.{SinkView}
use Rattle.io_edges.specs.Puts.{Puts}

-- of a sink that was like the first before the first event
module _ {S E R : Type 0} (t : Teller S E R) (first : SinkView) where
  -- what is due for the events before the last pause is written, and maybe more
  abbrev pub WritesPaused : (paused : List E) → SinkView → Type 0
  WritesPaused paused now = Told first.written now.written
      (λ w w'. Grows (w ++ first.held ++ told_along t t.start paused) w')

  -- all that is due for the events before the last pause and since then was put
  pub record HasPut (paused since : List E) (state : S) (now : SinkView) : Type 0 where
    pub writing : IsWriting t first (paused ++ since) state now
    pub left : WritesPaused paused now

  -- the sink failed so at what is due for one event more, or at a pause
  pub record HasFailed (paused since : List E) (at : Option E) (fault : SinkFault) (now : SinkView)
      : Type 0 where
    pub puts : Puts first now (told_along t t.start (then_at (paused ++ since) at)) (Err fault)
    pub left : WritesPaused paused now
