-- What was taken was put.
use Rattle.std.proofs.Common.{◌≡◌, ◌++◌}
use Rattle.soap_envelope.proofs.moving.put_moved.Given as goal

abbrev pub invariant-loop-one : goal.invariant-loop-one
invariant-loop-one g l = l.out ≡ l.initial.out ++ l.yielded
