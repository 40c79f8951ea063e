use Rattle.std.proofs.Common.{◌<◌, length}
use Rattle.session_dictionary.proofs.order.joined.Given as goal

-- the place is one of the cuts
abbrev pub invariant-loop-place : goal.invariant-loop-place
invariant-loop-place l = l.place < length l.cuts

abbrev pub decreases-loop-place : goal.decreases-loop-place
decreases-loop-place l = l.place
