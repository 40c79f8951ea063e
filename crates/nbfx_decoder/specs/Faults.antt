-- Why a node is refused that is no record which may stand there.
use Rattle.std.specs.Prelude.{ℕ, Ok, Err, Result}
use Rattle.nbfx_values.specs.declared.refusals.Reason.{Reason}
use Rattle.nbfx_records.specs.declared.cursor.Stop.{Stop}
use Rattle.nbfx_records.specs.declared.nodes.{NodeFault.NodeFault, RecordFault.RecordFault}
use Rattle.nbfx_decoder.specs.declared.{faults.UnitFault.UnitFault, units.UnitRead.UnitRead}
use Rattle.nbfx_decoder.specs.declared.faults.UnitFault.TheVariants.{Memory, Refused}
use Rattle.nbfx_values.specs.declared.refusals.Reason.TheVariants as reasons
use Rattle.nbfx_records.specs.declared.cursor.Stop.TheVariants as stops
use Rattle.nbfx_records.specs.declared.nodes.RecordFault.TheVariants as faults
use Rattle.nbfx_records.specs.declared.nodes.NodeFault.TheVariants as node_faults
use Rattle.nbfx_decoder.specs.declared.units.UnitRead.TheVariants as units_read

abbrev pub reason_of : RecordFault → Reason
reason_of faults.UnknownNode = reasons.UnknownNode
reason_of faults.OutOfPlace = reasons.NodeOutOfPlace
reason_of faults.TrailingBytes = reasons.TrailingBytes
reason_of faults.TooDeep = reasons.TooDeep
reason_of faults.BadInt = reasons.BadInt
reason_of faults.BadArray = reasons.BadArray
reason_of faults.BadUtf8 = reasons.BadUtf8
reason_of faults.BadValue = reasons.BadValue

-- why no node is made of a whole record of so many bytes
abbrev pub unmade : NodeFault → ℕ → UnitFault
unmade (node_faults.Record fault) used = Refused (reason_of fault) used
unmade node_faults.Memory used = Memory

-- what is answered where the structure of a record isn't whole
abbrev pub stopped : Stop → Result UnitRead UnitFault
stopped (stops.More wants) = Ok (units_read.More wants)
stopped (stops.Fault fault shown_by) = Err (Refused (reason_of fault) shown_by)
