use Rattle.std.proofs.{Common.sym, Common.ap, Common.◌∙◌, lemmas.Result.err_from_is_err_and}
use Rattle.line_notation.specs.{Options.◌>>=◌, Parts.value_from}
use Rattle.line_notation.proofs.ValueFacts.{finds-ok_or, values-stop}
use Rattle.line_notation.proofs.values.value_behind.Goals as goal

pub returns-in_err-all : goal.returns-in_err-all
returns-in_err-all c =
    let p = err_from_is_err_and c.from_residual.result c.from_residual.ensures.1 in
    rw (p.1, p.2) (values-stop c.in_err-all.field-0.0 c.args.first c.args.words.now
    c.in_err-all.ensures)

pub returns : goal.returns
returns c =
    let all = ap (λ read. read >>= λ all. value_from c.args.first all.0 all.1) c.in_ok-all.ensures
    in
    rw c.ok_or.ensures.value (finds-ok_or c.value_from.result _ (all ∙ sym c.value_from.ensures))
