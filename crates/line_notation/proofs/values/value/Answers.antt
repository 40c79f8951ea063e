use Rattle.std.proofs.Common.{◌∙◌, Some, ap, sym}
use Rattle.std.proofs.lemmas.Result.{err_from_is_err_and}
use Rattle.line_notation.proofs.ValueFacts.{value-alone, value-step, value-stops}
use Rattle.line_notation.proofs.values.value.Goals as goal
use Rattle.line_notation.proofs.values.value.Goals.{in_default-via-in-Scalar+else-is_empty}
use Rattle.line_notation.proofs.values.value.Goals.{in_default-via-in-Count-1}

pub returns-in_err-first : goal.returns-in_err-first
returns-in_err-first c =
    let p = err_from_is_err_and c.from_residual.result c.from_residual.ensures.1 in
    rw (p.1, p.2) (value-stops c.in_err-first.field-0.0 c.args.words.now
    c.in_err-first.ensures.token)

pub returns-in-Scalar : goal.returns-in-Scalar
returns-in-Scalar c =
    let none = c.is_empty.ensures.none.0 c.if-is_empty.true in
    value-alone c.args.words.now c.token.new.words c.in-Scalar.scalar
    (rw c.in-Scalar.is at c.in_ok-first.ensures.token) c.token.ensures.few none
    ∙ ap Some (sym c.one_value.ensures)

pub returns-in_default : goal.returns-in_default
returns-in_default c =
    rw (value-step c.args.words.now c.token.new.words c.in_ok-first.first
    c.in_ok-first.ensures.token c.token.ensures.few)
    (elim c.in_default-1.branch [
      | in_default-via-in-Scalar+else-is_empty w ↦ rw (w.in-Scalar.is ∙ sym w.first-is)
          c.value_behind.ensures
      | in_default-via-in-Count-1 w ↦ rw (sym w.first-is) c.value_behind.ensures
    ])
