use Rattle.std.proofs.{Common.Some, Common.ap, Common.◌∙◌, lemmas.Result.err_from_is_err_and}
use Rattle.nbfx_values.specs.declared.scalars.Scalar.TheVariants.{Text}
use Rattle.line_notation.proofs.PartsFacts.{mapped_at, stops-mapped, text_at-judged}
use Rattle.line_notation.proofs.scalar_words.text_value.Goals as goal

pub returns-in_err-text : goal.returns-in_err-text
returns-in_err-text c =
    let p = err_from_is_err_and c.from_residual.result c.from_residual.ensures.1 in
    rw (p.1, p.2, text_at-judged c.args.words.now)
    (stops-mapped Text c.in_err-text.field-0.0 _ c.in_err-text.ensures)

pub returns-in-Ok : goal.returns-in-Ok
returns-in-Ok c =
    text_at-judged c.args.words.now ∙ ap (mapped_at Text)
    (c.in_ok-text.ensures ∙ ap (λ one. Some (one, c.text.new.words)) c.in-Ok.is)

pub returns-in-Err : goal.returns-in-Err
returns-in-Err c =
    text_at-judged c.args.words.now ∙ ap (mapped_at Text)
    (c.in_ok-text.ensures ∙ ap (λ one. Some (one, c.text.new.words)) c.in-Err.is)
