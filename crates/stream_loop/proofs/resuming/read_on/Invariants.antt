use Rattle.std.proofs.Common.{◌≡◌, ℕ, ◌+◌, ◌-◌, ◌*◌, List, map, length}
use Rattle.stream_loop.specs.{Edges.Input, Edges.input_at, Resumed.HasComeTo}
use Rattle.stream_loop.proofs.resuming.read_on.Given as goal

abbrev pub invariant-loop-judged : goal.invariant-loop-judged
invariant-loop-judged g l = record {
  grammar : g.E.ReadingEnd.grammar l.end ≡ g.E.ReadingEnd.grammar l.initial.end;
  settings : g.H.EventHandler.settings l.handler ≡ g.H.EventHandler.settings l.initial.handler;
  same_end : (g.H.EventHandler.has_stopped l.handler → ⊥)
      → g.H.EventHandler.ended l.output ≡ g.H.EventHandler.ended l.initial.output;
  input_faults : g.I.Source.faults l.input ≡ g.I.Source.faults l.initial.input;
  comes : (i : Input) (first : g.row.O.Denot) (p : List ℕ)
      → HasComeTo (g.E.ReadingEnd.grammar l.initial.end) i
      (input_at g.I.Source.left g.I.Source.taken g.I.Source.faults g.I.Source.empty_takes
      l.initial.input) (g.E.ReadingEnd.stands l.initial.end)
      (λ paused since. g.H.EventHandler.handled first (map g.E.ReadingEnd.event_for paused)
      (map g.E.ReadingEnd.event_for since) l.initial.handler l.initial.output) p l.initial.buffer
      → (q : List ℕ) × HasComeTo (g.E.ReadingEnd.grammar l.initial.end) i
      (input_at g.I.Source.left g.I.Source.taken g.I.Source.faults g.I.Source.empty_takes l.input)
      (g.E.ReadingEnd.stands l.end) (λ paused since. g.H.EventHandler.handled first
      (map g.E.ReadingEnd.event_for paused) (map g.E.ReadingEnd.event_for since) l.handler
      l.output) q l.buffer;
}

abbrev pub decreases-loop-judged : goal.decreases-loop-judged
decreases-loop-judged g l =
    2 * (g.E.ReadingEnd.most l.initial.end + 1 - g.E.ReadingEnd.taken l.end)
    + (1 - length l.buffer)
