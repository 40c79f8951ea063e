use Rattle.string_tables.proofs.SessionFacts.{length-le-used_cost, used_cost-append}
use Rattle.string_tables.proofs.laws.costs.Goals as goal

pub returns-clause-added : goal.returns-clause-added
returns-clause-added c = used_cost-append

pub returns-clause-count : goal.returns-clause-count
returns-clause-count c = length-le-used_cost
