use Rattle.std.proofs.Common.{◌≡◌, ℕ, ◌+◌, ◌-◌, ◌≤◌, List}
use Rattle.line_streams.specs.LineStreamState.{Reached}
use Rattle.line_streams.proofs.Feeding.{Along}
use Rattle.line_streams.proofs.line_stream.LineStream.read.Given as goal

abbrev pub invariant-loop-end : goal.invariant-loop-end
invariant-loop-end g l = record {
  within : l.used ≤ l.room;
  settings : g.L.LineEnd.settings l.self.lines ≡ g.L.LineEnd.settings l.initial.self.lines;
  most : l.self.most ≡ l.initial.self.most;
  taken : l.self.taken ≡ l.initial.self.taken + l.used;
  along : (g.L.LineEnd.rules (g.L.LineEnd.settings l.initial.self.lines)).most
      ≡ l.initial.self.most → (p : List ℕ)
      → Reached (g.L.LineEnd.rules (g.L.LineEnd.settings l.initial.self.lines))
      (g.L.LineEnd.is_in l.initial.self.lines) l.initial.self.begun.items l.initial.self.taken p
      → Along (g.L.LineEnd.rules (g.L.LineEnd.settings l.initial.self.lines))
      (Reached (g.L.LineEnd.rules (g.L.LineEnd.settings l.initial.self.lines))
      (g.L.LineEnd.is_in l.self.lines) l.self.begun.items l.self.taken) p l.piece l.used;
}

abbrev pub decreases-loop-end : goal.decreases-loop-end
decreases-loop-end g l = l.room - l.used
