use Rattle.std.proofs.Common.{List, Ok, sym, ap, ◌∙◌}
use Rattle.std.proofs.lemmas.Result.{err_from_is_err_and}
use Rattle.line_notation.specs.Quoted.{quoted_in}
use Rattle.nbfx_values.specs.declared.content.Item.{Item}
use Rattle.reliable_sequence.specs.declared.events.Event.TheVariants.{Submit}
use Rattle.rehearsal.proofs.Words.{submission-made, submission-stopped}
use Rattle.rehearsal.proofs.line.submitted.Goals as goal

pub returns-in_err-text : goal.returns-in_err-text
returns-in_err-text c =
    let r = err_from_is_err_and c.from_residual.result c.from_residual.ensures.1 in
    rw (r.1, r.2) (submission-stopped (quoted_in c.args.argument.now) c.args.last
    c.in_err-text.field-0.0 c.in_err-text.ensures)

pub returns-in-Ok : goal.returns-in-Ok
returns-in-Ok c =
    submission-made (quoted_in c.args.argument.now) c.args.last c.in_ok-text.text
    c.in_ok-text.ensures
    ∙ ap (λ (body : List Item). Ok (Submit body c.args.last)) (sym c.in-Ok.ensures)
