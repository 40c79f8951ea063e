use Rattle.{std.proofs.Common.arith, string_tables.proofs.SessionFacts.length-le-used_cost}
use Rattle.session_dictionary.proofs.TableFacts.{texts_few}
use Rattle.session_dictionary.proofs.table.SessionTable.add.Goals as goal

pub overflow_cast-id : goal.overflow_cast-id
overflow_cast-id c = omega (arith, texts_few c.self.inside c.self.invariant)

pub overflow_mul-id : goal.overflow_mul-id
overflow_mul-id c = omega (arith, texts_few c.self.inside c.self.invariant)

pub overflow_add-id : goal.overflow_add-id
overflow_add-id c = omega (arith, texts_few c.self.inside c.self.invariant)

pub push_text-requires-clause-few : goal.push_text-requires-clause-few
push_text-requires-clause-few c = texts_few c.self.inside c.self.invariant

pub returns-in-Ok-clause-small : goal.returns-in-Ok-clause-small
returns-in-Ok-clause-small c = omega (arith, length-le-used_cost c.self.inside.texts)
