use Rattle.std.proofs.Common.{◌≢◌, ◌<◌, ℕ}
use Rattle.session_dictionary.specs.Order.{text_of}
use Rattle.session_dictionary.proofs.order.first_walked.Given as goal

-- no position before has the text
abbrev pub invariant-loop-position : goal.invariant-loop-position
invariant-loop-position l = (other : ℕ) → other < l.position → text_of l.texts other ≢ l.text
