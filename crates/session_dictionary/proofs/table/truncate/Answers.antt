use Rattle.session_dictionary.proofs.table.truncate.Goals as goal

pub returns-in-Some-clause-order : goal.returns-in-Some-clause-order
returns-in-Some-clause-order c = rw c.truncate.ensures c.cut_off.ensures
