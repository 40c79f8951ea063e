use Rattle.std.proofs.{Common.Some, Common.ap, Common.◌∙◌, lemmas.Result.err_from_is_err_and}
use Rattle.nbfx_values.specs.declared.scalars.Scalar.TheVariants.{QName}
use Rattle.line_notation.proofs.PartsFacts.{mapped_at, name_at-judged, stops-mapped}
use Rattle.line_notation.proofs.scalar_words.name.Goals as goal

pub returns-in_err-name : goal.returns-in_err-name
returns-in_err-name c =
    let p = err_from_is_err_and c.from_residual-in_err-name.result
    c.from_residual-in_err-name.ensures.1 in
    rw (
      p.1,
      p.2,
      name_at-judged c.args.words.now c.letter.new.words c.in_ok-letter.letter
          c.in_ok-letter.ensures.gives c.in_ok-letter.ensures.small,
    )
    (stops-mapped (λ name. QName c.in_ok-letter.letter name) c.in_err-name.field-0.0 _
    c.in_err-name.ensures)

pub returns-in-Ok : goal.returns-in-Ok
returns-in-Ok c =
    name_at-judged c.args.words.now c.letter.new.words c.in_ok-letter.letter
    c.in_ok-letter.ensures.gives c.in_ok-letter.ensures.small
    ∙ ap (mapped_at (λ name. QName c.in_ok-letter.letter name))
    (c.in_ok-name.ensures ∙ ap (λ one. Some (one, c.text.new.words)) c.in-Ok.is)

pub returns-in-Err : goal.returns-in-Err
returns-in-Err c =
    name_at-judged c.args.words.now c.letter.new.words c.in_ok-letter.letter
    c.in_ok-letter.ensures.gives c.in_ok-letter.ensures.small
    ∙ ap (mapped_at (λ name. QName c.in_ok-letter.letter name))
    (c.in_ok-name.ensures ∙ ap (λ one. Some (one, c.text.new.words)) c.in-Err.is)
