use Rattle.std.proofs.Common.{ℕ, List, ◌++◌, ◌==◌, ◌∙◌, sym, ap, subst}
use Rattle.line_streams.specs.LineStreamState.{LineAnswers}
use Rattle.line_streams.proofs.StreamFacts.{nothing_begun}
use Rattle.line_streams.proofs.line_stream.LineStream.end_line.Goals as goal

pub returns-then-is_empty-clause-answers : goal.returns-then-is_empty-clause-answers
returns-then-is_empty-clause-answers g c = λ z is.
    let s = c.args.self.now in
    subst (λ (begun : List ℕ). LineAnswers (g.L.LineEnd.rules (g.L.LineEnd.settings s.lines))
    (g.L.LineEnd.is_in c.line.new.self) z (begun ++ c.args.bytes.now) c.line.result)
    (sym (nothing_begun s.begun.items c.is_empty.result
    (c.is_empty.ensures ∙ ap (λ n. n == 0) s.begun.ok.0) c.if-is_empty.true))
    (c.line.ensures.answers z is)
