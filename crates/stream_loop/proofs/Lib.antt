-- streams of a few bytes, by computation
mod Worked
-- what is left in a buffer
pub mod Buffered
-- what bytes bring that are fed, and how far the reading has come then (src/resuming.rt)
pub mod Bringing
pub mod Reading
pub mod LoopSteps
-- what is told before and afterwards, and what counts say
pub mod Writing
-- what a reporter puts of events (src/report.rt), what is reported then, and how it all ends
-- (src/reporting.rt)
pub mod Lines
pub mod Reports
pub mod Finishing
-- what holds however a report ends (specs/Laws)
pub mod Fronts
-- for callers: two ways to say what is written, which are one
pub mod Alike
-- what was taken of the stream, and handled of it, when the loop ends (src/following.rt)
pub mod Taking
-- what puts leave of what is written
pub mod Grown
-- what was written when an event more comes, none, or a closing (specs/Writing)
pub mod Written
-- and of what was gathered (specs/Gathering), part by part (src/part_writer.rt)
pub mod Gathered
pub mod Within
pub mod Parts
-- what was written of parts was written of the events for which they are due (specs/PartsDue)
pub mod PartsDue
-- how many bytes that is, and what it leaves of the counts of faults
pub mod Amounts
pub mod Counts
-- what is known where the input's bytes are
pub mod Knowing
