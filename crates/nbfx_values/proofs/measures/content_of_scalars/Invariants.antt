-- The content so far is that of the values before the place.
use Rattle.std.proofs.Common.{◌≡◌, sum_by, take}
use Rattle.nbfx_values.specs.Measures.{capped, scalar_content}
use Rattle.nbfx_values.proofs.measures.content_of_scalars.Given as goal

abbrev pub invariant-loop-scalar : goal.invariant-loop-scalar
invariant-loop-scalar l = l.content ≡ capped (sum_by scalar_content (take l.scalar-index l.scalars))
