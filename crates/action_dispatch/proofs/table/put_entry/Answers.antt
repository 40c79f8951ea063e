use Rattle.std.proofs.Common.{is_some, Ok, sym, ap, ◌∙◌}
use Rattle.action_dispatch.specs.{Actions.and_then, Inside.texts_in}
use Rattle.action_dispatch.proofs.TextFacts.{text_for-get, with_entry-again, with_entry-new}
use Rattle.action_dispatch.proofs.table.put_entry.Goals as goal

pub returns-then-contains_key-clause-bad : goal.returns-then-contains_key-clause-bad
returns-then-contains_key-clause-bad c =
    let texts = texts_in c.args.texts.now in
    let action = c.args.action.now in
    let again =
    ap is_some (text_for-get c.args.texts.now action) ∙ sym c.contains_key.ensures
    ∙ c.if-contains_key.true in
    ap (and_then (λ more. Ok more) c.args.number)
    (with_entry-again texts action c.args.text.now again)

pub returns-clause-put : goal.returns-clause-put
returns-clause-put c =
    let texts = texts_in c.args.texts.now in
    let action = c.args.action.now in
    let fresh =
    ap is_some (text_for-get c.args.texts.now action) ∙ sym c.contains_key.ensures
    ∙ c.if-contains_key.false in
    with_entry-new texts action c.args.text.now fresh ∙ ap Ok (sym c.in_ok-put_text.ensures)
