use Rattle.{std.proofs.Common.◌≡◌, csv_rows.specs.Rows.rows_of}
use Rattle.action_dispatch.specs.{Actions.texts_from, Actions.texts_of, Inside.texts_in}
use Rattle.action_dispatch.proofs.table.TableService.read.Given as goal

-- the rows to come lead from the texts so far to those of the file
abbrev pub invariant-loop-number : goal.invariant-loop-number
invariant-loop-number l =
    texts_of (rows_of l.fn.bytes) ≡ texts_from l.number l.rows.coming (texts_in l.texts)
