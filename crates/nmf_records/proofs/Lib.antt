-- the definitions on literals
mod Worked
mod WorkedScripts
-- records (specs/Records, RecordFronts): by their type, byte by byte, as what bytes there are; the
-- cause of each fault; how long they are
pub mod Typed
pub mod TypeCases
pub mod Frames
pub mod Records
pub mod Causes
pub mod Faults
pub mod Short
-- what is written of a record (specs/Writing)
pub mod Written
mod WorkedWriting
-- a reader (specs/Reader): where bytes lead, where it stands then, which text it shows
pub mod TextBytes
pub mod Leading
pub mod Settling
pub mod Showing
pub mod Feeding
pub mod Heads
-- scripts (specs/Script): the way through what is due and the grammar, each from the other; their
-- ends
pub mod ScriptWays
pub mod ScriptsLead
pub mod WaysAreScripts
pub mod ScriptEnds
