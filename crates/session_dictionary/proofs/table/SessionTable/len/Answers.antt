use Rattle.{std.proofs.Common.arith, string_tables.proofs.SessionFacts.length-le-used_cost}
use Rattle.session_dictionary.proofs.TableFacts.{texts_few}
use Rattle.session_dictionary.proofs.table.SessionTable.len.Goals as goal

pub overflow_cast-result : goal.overflow_cast-result
overflow_cast-result c = omega (arith, texts_few c.self.inside c.self.invariant)

pub returns-clause-within : goal.returns-clause-within
returns-clause-within c =
    rw (← c.self.view_is) (omega (arith, length-le-used_cost c.self.inside.texts))
