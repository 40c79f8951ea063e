use Rattle.std.proofs.Common.{◌==◌, ◌∙◌, ap}
use Rattle.unit_streams.specs.Grammar.{standing}
use Rattle.line_streams.specs.LineRules.{lines_by}
use Rattle.line_streams.proofs.StreamFacts.{ends_so}
use Rattle.line_streams.proofs.line_stream.LineStream.fault_at_end.Goals as goal

pub returns : goal.returns
returns g c = λ p h.
    let s = c.args.self.now in
    let x = g.L.LineEnd.rules (g.L.LineEnd.settings s.lines) in
    c.fault_at_end.ensures (standing (lines_by x) p).situation h.at
    ∙ ends_so x (g.L.LineEnd.is_in s.lines) s.begun.items s.taken p h c.is_empty.result
    (c.is_empty.ensures ∙ ap (λ n. n == 0) s.begun.ok.0)
