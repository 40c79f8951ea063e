use Rattle.std.proofs.Common.{◌∙◌, sym, ap}
use Rattle.static_dictionary.proofs.RowFacts.{id_of-parsed, within_most, within_most-small}
use Rattle.static_dictionary.proofs.RowFacts.{within_most-great}
use Rattle.static_dictionary.proofs.entry.id_of.Goals as goal

pub returns-in_err-id : goal.returns-in_err-id
returns-in_err-id c =
    let plain = c.if-not-begins_plain.false in
    let bytes = c.as_bytes.ensures.value in
    let parsed = id_of-parsed c.args.field.now (rw bytes at (c.begins_plain.ensures.digits plain))
    c.parse.result (rw bytes at (c.begins_plain.ensures.unsigned plain)) c.parse.ensures.value.0 in
    c.from_residual.ensures ∙ sym (parsed ∙ ap within_most (sym c.in_err-id.ensures.value))

pub returns-then-id-le-MOST_ID : goal.returns-then-id-le-MOST_ID
returns-then-id-le-MOST_ID c =
    let plain = c.if-not-begins_plain.false in
    let bytes = c.as_bytes.ensures.value in
    let parsed = id_of-parsed c.args.field.now (rw bytes at (c.begins_plain.ensures.digits plain))
    c.parse.result (rw bytes at (c.begins_plain.ensures.unsigned plain)) c.parse.ensures.value.0 in
    sym (parsed ∙ ap within_most (sym c.in_ok-id.ensures.value)
    ∙ within_most-small c.in_ok-id.id c.if-id-le-MOST_ID.true)

pub returns-else-id-le-MOST_ID : goal.returns-else-id-le-MOST_ID
returns-else-id-le-MOST_ID c =
    let plain = c.if-not-begins_plain.false in
    let bytes = c.as_bytes.ensures.value in
    let parsed = id_of-parsed c.args.field.now (rw bytes at (c.begins_plain.ensures.digits plain))
    c.parse.result (rw bytes at (c.begins_plain.ensures.unsigned plain)) c.parse.ensures.value.0 in
    sym (parsed ∙ ap within_most (sym c.in_ok-id.ensures.value)
    ∙ within_most-great c.in_ok-id.id c.if-id-le-MOST_ID.false)
