use Rattle.{std.proofs.Common.sym, action_dispatch.proofs.RowFacts.entry_of-read}
use Rattle.action_dispatch.proofs.actions.entry_of.Goals as goal

pub returns : goal.returns
returns c =
    sym (entry_of-read c.args.rows.now.row c.in-Some.action.now c.in-Some.text.now
    c.in-Some-text_of.action.now c.in-Some-text_of-2.text.now
    c.in-Some.ensures c.in-Some-text_of.ensures c.in-Some-text_of-2.ensures)
