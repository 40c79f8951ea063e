use Rattle.std.proofs.Common.{◌≡◌, Some, None, sym, refl, ◌∙◌}
use Rattle.action_dispatch.specs.{Actions.text_for, Inside.texts_in}
use Rattle.action_dispatch.proofs.TextFacts.{text_for-get}
use Rattle.action_dispatch.proofs.table.has_text_above.Goals as goal

pub returns-in-Some : goal.returns-in-Some
returns-in-Some c =
    let found : text_for (texts_in c.args.texts.now) c.args.action.now
    ≡ Some c.in-Some.text.now =
    text_for-get c.args.texts.now c.args.action.now ∙ sym c.in-Some.ensures.value in
    rw (found, c.len.ensures) refl

pub returns-in-None : goal.returns-in-None
returns-in-None c =
    let none : text_for (texts_in c.args.texts.now) c.args.action.now ≡ None =
    text_for-get c.args.texts.now c.args.action.now ∙ sym c.in-None.ensures.value in
    rw none refl
