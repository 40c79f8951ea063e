use Rattle.std.proofs.Common.{◌≡◌, string_bytes, refl, ap, ◌∙◌}
use Rattle.std.proofs.lemmas.Result.{IfOk-at_ok}
use Rattle.action_dispatch.{specs.Inside.shown, proofs.TextFacts.shown-insert}
use Rattle.action_dispatch.proofs.table.put_text.Goals as goal

pub returns : goal.returns
returns c =
    let key =
    IfOk-at_ok (λ s. string_bytes s ≡ c.args.action.now) c.in_ok-from_str.was
    c.from_str.ensures.ok in
    ap shown c.in_ok-insert.ensures.entries
    ∙ shown-insert c.args.texts.now.entries c.in_ok-from_str.field-0 c.in_ok-of.field-0
    ∙ rw (key, c.in_ok-of.ensures.same) refl
