use Rattle.std.proofs.{Common.arith, lemmas.Result.err_from_is_err_and}
use Rattle.line_notation.proofs.PlacingFacts.{outcome-behind, outcome-stops}
use Rattle.line_notation.proofs.placing.read_placed.Goals as goal

pub returns-in_err-keyword-clause-places : goal.returns-in_err-keyword-clause-places
returns-in_err-keyword-clause-places c =
    let p = err_from_is_err_and c.from_residual.result c.from_residual.ensures.1 in
    rw (p.1, p.2)
    (outcome-stops c.args.builder.now c.args.array.now c.args.line.now c.in_err-keyword.field-0.0
    (grind arith) (rw c.of-words.ensures at c.in_err-keyword.ensures))

pub returns-clause-places : goal.returns-clause-places
returns-clause-places c =
    rw (outcome-behind c.args.builder.now c.args.array.now c.args.line.now c.in_ok-keyword.keyword
    c.next_keyword.new.self (grind arith) (rw c.of-words.ensures at c.in_ok-keyword.ensures))
    c.place_behind.ensures.places
