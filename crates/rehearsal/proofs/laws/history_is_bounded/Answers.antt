use Rattle.std.proofs.Common.{lit<}
use Rattle.rehearsal.specs.History.{history_rules}
use Rattle.line_streams.proofs.LineFacts.{begins, bounded}
use Rattle.rehearsal.proofs.laws.history_is_bounded.Goals as goal

pub returns-clause-begins : goal.returns-clause-begins
returns-clause-begins c = λ x. begins (history_rules x) (lit< tt)

pub returns-clause-bounded : goal.returns-clause-bounded
returns-clause-bounded c = λ x bytes pending. bounded (history_rules x) bytes pending
