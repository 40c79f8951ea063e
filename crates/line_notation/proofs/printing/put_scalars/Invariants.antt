use Rattle.std.proofs.Common.{drop, flat_map}
use Rattle.line_notation.specs.{Scalars.scalar_words, Words.behind_spaces}
use Rattle.line_notation.proofs.PutsFacts.{HavePut}
use Rattle.line_notation.proofs.printing.put_scalars.Given as goal

abbrev pub invariant-loop-scalar : goal.invariant-loop-scalar
invariant-loop-scalar g l =
    HavePut (flat_map (λ s. behind_spaces (scalar_words s))) l.scalars
    (drop l.scalar-index l.scalars)
    (g.K.Sink.view l.fn.sink) (g.K.Sink.view l.sink)
