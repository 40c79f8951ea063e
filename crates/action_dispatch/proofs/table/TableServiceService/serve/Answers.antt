use Rattle.std.proofs.Common.{◌≡◌, Some, None, sym, refl, ap, ◌∙◌}
use Rattle.action_dispatch.specs.{declared.service.Served.TheVariants.Reply, Inside.texts_in}
use Rattle.action_dispatch.{specs.Actions.text_for, proofs.TextFacts.text_for-get}
use Rattle.action_dispatch.proofs.table.TableServiceService.serve.Goals as goal

pub returns-in_ok-reply_of-in-Some-clause-same : goal.returns-in_ok-reply_of-in-Some-clause-same
returns-in_ok-reply_of-in-Some-clause-same c =
    let found : text_for (texts_in c.self.inside.texts) c.args.action.now
    ≡ Some c.in-Some.text.now =
    text_for-get c.self.inside.texts c.args.action.now ∙ sym c.in-Some.ensures.value in
    rw (← c.self.view_is, found) (ap Reply c.in_ok-reply_of-in-Some.ensures.same)

pub returns-in-None-clause-same : goal.returns-in-None-clause-same
returns-in-None-clause-same c =
    let none : text_for (texts_in c.self.inside.texts) c.args.action.now ≡ None =
    text_for-get c.self.inside.texts c.args.action.now ∙ sym c.in-None.ensures.value in
    rw (← c.self.view_is, none) refl
