use Rattle.std.proofs.Common.{◌≡◌, length}
use Rattle.line_notation.{specs.Quoted.unescaped, proofs.TextsFacts.before}
use Rattle.line_notation.proofs.texts.unescaped.Given as goal

abbrev pub invariant-loop-rest : goal.invariant-loop-rest
invariant-loop-rest l = unescaped l.pieces ≡ before l.text.items (unescaped l.rest)

abbrev pub decreases-loop-rest : goal.decreases-loop-rest
decreases-loop-rest l = length l.rest
