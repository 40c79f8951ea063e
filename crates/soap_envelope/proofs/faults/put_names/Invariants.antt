-- What came before, and the blocks of the names so far, whose texts are UTF-8.
use Rattle.std.proofs.Common.{◌≡◌, ◌++◌, IsTrue, take}
use Rattle.std.specs.List.{flat_map, list_all}
use Rattle.soap_envelope.specs.Faults.{is_nameable, not_understood_block}
use Rattle.soap_envelope.proofs.faults.put_names.Given as goal

abbrev pub invariant-loop-name : goal.invariant-loop-name
invariant-loop-name l = record {
  put : l.items ≡ l.initial.items ++ flat_map not_understood_block (take l.name-index l.names);
  valid : IsTrue (list_all is_nameable (take l.name-index l.names));
}
