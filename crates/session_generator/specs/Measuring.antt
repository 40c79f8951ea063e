-- What a session measures, and what becomes of its line.
use Rattle.std.specs.Prelude.{◌≡◌, ℕ, List, length, Ok, Err, Result, ⊤}
use Rattle.{io_edges.specs.declared.SinkFault.SinkFault, session_generator.specs.Ends.IsWhyNone}
use Rattle.string_tables.specs.StaticStrings.{Entry}
use Rattle.nbfx_values.specs.{declared.content.Item.Item, Limits.Limits}
use Rattle.session_generator.specs.declared.{ends.GenFault.GenFault, summary.Measured.Measured}
use Rattle.session_generator.specs.declared.summary.Summary.{Summary, TheVariants.Written}
use Rattle.session_generator.specs.declared.summary.Summary.TheVariants.{Memory, WriteFault}
use Rattle.session_generator.specs.Summary.{IsWithinQuota, summary_line, summary_of}
use Rattle.io_edges.specs.declared.SinkFault.TheVariants as sinks

-- its line
abbrev pub line_of : Measured → List ℕ
line_of m = summary_line m.documents m.bytes m.strings m.used

-- the session of documents measures this, or there is none
abbrev pub Measures : Limits → List Entry → List (List Item) → Result Measured GenFault → Type 0
Measures limits statics documents (Ok measured) = IsWithinQuota limits statics documents
    × (line_of measured ≡ summary_of limits statics documents)
Measures limits statics documents (Err fault) = IsWhyNone limits statics documents fault

-- by the answer of putting the line
abbrev pub summary_by : Result ⊤ SinkFault → Summary
summary_by (Ok done) = Written
summary_by (Err sinks.Failed) = WriteFault
summary_by (Err sinks.Memory) = Memory
