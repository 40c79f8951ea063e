use Rattle.std.proofs.Common.{◌∙◌, None, Some, sym}
use Rattle.static_dictionary.proofs.RowFacts.{entry_of-read, even_entry-even, even_entry-odd}
use Rattle.static_dictionary.proofs.entry.entry_of.Goals as goal

pub returns-in-None : goal.returns-in-None
returns-in-None c =
    sym (entry_of-read c.args.rows.now.row c.in-Some.id.now c.in-Some.text.now
    c.in-Some-text_of.id.now c.in-Some-text_of-2.text.now None
    c.in-Some.ensures c.in-Some-text_of.ensures c.in-Some-text_of-2.ensures c.in-None.ensures)

pub returns-in-Some-id_of : goal.returns-in-Some-id_of
returns-in-Some-id_of c =
    let read = entry_of-read c.args.rows.now.row c.in-Some.id.now c.in-Some.text.now
    c.in-Some-text_of.id.now c.in-Some-text_of-2.text.now (Some c.in-Some-id_of.id)
    c.in-Some.ensures c.in-Some-text_of.ensures c.in-Some-text_of-2.ensures
    c.in-Some-id_of.ensures in
    sym (read ∙ even_entry-odd c.in-Some-id_of.id c.in-Some-text_of-2.text.now c.if-id-eq1.true)

pub returns-in-Some-2 : goal.returns-in-Some-2
returns-in-Some-2 c =
    let read = entry_of-read c.args.rows.now.row c.in-Some.id.now c.in-Some.text.now
    c.in-Some-text_of.id.now c.in-Some-text_of-2.text.now (Some c.in-Some-id_of.id)
    c.in-Some.ensures c.in-Some-text_of.ensures c.in-Some-text_of-2.ensures
    c.in-Some-id_of.ensures in
    sym (read ∙ even_entry-even c.in-Some-id_of.id c.in-Some-text_of-2.text.now c.if-id-eq1.false)
