-- The static strings that a file on the shelf gives.
use Rattle.std.specs.Prelude.{ℕ, List, Some, None, codes, Option}
use Rattle.io_edges.specs.{declared.fault.FileFault.FileFault, Store.Store}
use Rattle.io_edges.specs.Files.{bad, Has, Reading, ShelfFile, whole}
use Rattle.{string_tables.specs.StaticStrings.Entry, nbfx_values.specs.Limits.Limits}
use Rattle.static_dictionary.specs.declared.fault.{TableFault.TableFault, TableKind.TableKind}
use Rattle.static_dictionary.specs.Rows.{Fault, fault_of, rows_of, table_of}
use Rattle.stream_reader.specs.Stream.{initiators, receivers, Settings, Side}
use Rattle.command_words.specs.{declared.task.Origin.Origin, Requests.AskedOfSessions, Requests.TwoLimits}
use Rattle.command_words.specs.declared.task.Origin.TheVariants.{Initiator, Receiver}
use Rattle.io_edges.specs.declared.fault.FileFault.TheVariants as faults
use Rattle.static_dictionary.specs.declared.fault.TableFault.TheVariants as tables
use Rattle.static_dictionary.specs.declared.fault.TableKind.TheVariants as kinds

-- what the rows of a file of static strings say: these entries, unless one of the rows fails
abbrev pub file_unless : List Entry → Option Fault → ShelfFile (List Entry) TableKind
file_unless entries None = whole entries
file_unless entries (Some fault) = bad fault.0 fault.1

-- and its bytes
abbrev pub reading_statics : Reading (List Entry) TableKind
reading_statics bytes = file_unless (table_of (rows_of bytes)) (fault_of (rows_of bytes))

-- a fault of a file's rows
abbrev pub file_fault : TableFault → FileFault TableKind
file_fault (tables.Bad row kind) = faults.Bad row kind
file_fault tables.Memory = faults.Memory

-- what is wrong with a row, as a note says it
abbrev pub table_kind_name : TableKind → List ℕ
table_kind_name kinds.Header = codes "Header"
table_kind_name kinds.Fields = codes "Fields"
table_kind_name kinds.NotUtf8 = codes "NotUtf8"
table_kind_name kinds.NotANumber = codes "NotANumber"
table_kind_name kinds.Odd = codes "Odd"
table_kind_name kinds.Repeated = codes "Repeated"

-- whose stream is read: an initiator's, to any Via, or a receiver's
abbrev pub side_for : Origin → Side
side_for Initiator = initiators None
side_for (Receiver mode kind) = receivers mode kind

-- the limits of what that end sends
abbrev pub limits_for : Origin → TwoLimits → Limits
limits_for Initiator limits = limits.forward
limits_for (Receiver mode kind) limits = limits.back

-- how it is read, with these static strings
abbrev pub settings_for : Origin → List Entry → TwoLimits → Settings
settings_for origin statics limits =
    record { side = side_for origin; statics = statics; limits = limits_for origin limits }

-- this holds with the static strings of the file that is asked for
pub record UnderFile (files : Option Store) (asked : AskedOfSessions) (Holds : List Entry → Type 0)
    : Type 0 where
  pub entries : List Entry
  pub has : Has reading_statics files asked.statics (whole entries)
  pub holds : Holds entries
