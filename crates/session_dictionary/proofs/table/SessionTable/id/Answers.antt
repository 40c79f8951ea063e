use Rattle.{std.proofs.Common.arith, string_tables.proofs.SessionFacts.gives_least_session}
use Rattle.string_tables.proofs.LeastFacts.{found_least, found_none}
use Rattle.string_tables.specs.SessionStrings.{least_session_id, session_text}
use Rattle.session_dictionary.proofs.TableFacts.{least_at, least_none, texts_few}
use Rattle.session_dictionary.proofs.table.SessionTable.id.Goals as goal

pub first_position-requires-clause-few : goal.first_position-requires-clause-few
first_position-requires-clause-few c = texts_few c.self.inside c.self.invariant

pub overflow_mul-result : goal.overflow_mul-result
overflow_mul-result c =
    omega (arith, texts_few c.self.inside c.self.invariant, c.in_ok-position.ensures.found.there)

pub overflow_add-result : goal.overflow_add-result
overflow_add-result c =
    omega (arith, texts_few c.self.inside c.self.invariant, c.in_ok-position.ensures.found.there)

pub returns-clause-small : goal.returns-clause-small
returns-clause-small c =
    omega (arith, texts_few c.self.inside c.self.invariant, c.in_ok-position.ensures.found.there)

pub returns-clause-least : goal.returns-clause-least
returns-clause-least c =
    rw (← c.self.view_is)
    (least_at c.self.inside.texts c.args.text.now c.in_ok-position.position
    c.in_ok-position.ensures.found)

pub returns-clause-found : goal.returns-clause-found
returns-clause-found c =
    let strings = c.self.inside.texts in
    rw (← c.self.view_is)
    (found_least (session_text strings) (least_session_id strings)
    (gives_least_session strings) c.args.text.now _
    (least_at strings c.args.text.now c.in_ok-position.position c.in_ok-position.ensures.found))

pub returns-in_err-position-clause-least : goal.returns-in_err-position-clause-least
returns-in_err-position-clause-least c =
    rw (c.from_residual.ensures, ← c.self.view_is)
    (least_none c.self.inside.texts c.args.text.now c.in_err-position.ensures.none)

pub returns-in_err-position-clause-none : goal.returns-in_err-position-clause-none
returns-in_err-position-clause-none c =
    let strings = c.self.inside.texts in
    rw (c.from_residual.ensures, ← c.self.view_is)
    (found_none (session_text strings) (least_session_id strings)
    (gives_least_session strings) c.args.text.now _
    (least_none strings c.args.text.now c.in_err-position.ensures.none))
