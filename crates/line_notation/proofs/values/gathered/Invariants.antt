use Rattle.{std.proofs.Common.length, line_notation.proofs.GatherSteps.HasGathered}
use Rattle.line_notation.proofs.values.gathered.Given as goal

abbrev pub invariant-loop-alloc : goal.invariant-loop-alloc
invariant-loop-alloc l = HasGathered l.holder l.fn.words l.words l.so_far

abbrev pub decreases-loop-alloc : goal.decreases-loop-alloc
decreases-loop-alloc l = length l.words
