-- What a reader of records holds.
use Rattle.std.specs.Prelude.{ℕ, List, Option}
use Rattle.nbfx_records.specs.declared.{nodes.NodeFault.NodeFault, reader.NodeReader.NodeReader}

-- the bytes since the last record, and why it has failed
abbrev pub begun_of : NodeReader → List ℕ
begun_of r = r.begun

abbrev pub failure_of : NodeReader → Option NodeFault
failure_of r = r.failure
