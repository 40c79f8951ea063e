use Rattle.static_dictionary.proofs.FileFacts.{ReadSoFar}
use Rattle.static_dictionary.proofs.table.StaticTable.read.Given as goal

abbrev pub invariant-loop-number : goal.invariant-loop-number
invariant-loop-number l = ReadSoFar l.fn.bytes l.number l.rows.coming l.by_id l.names
