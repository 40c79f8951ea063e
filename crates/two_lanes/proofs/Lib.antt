-- what one side of a pass knows, and that each move keeps the rule of the channel (src/jobs.rt)
mod Seats
mod Rule
-- what jobs name (specs/Numbers), for callers also of two lists (specs/Merges)
mod Numbering
pub mod Naming
pub mod Merging
-- what a worker has done after one more job, and what is known once each pass is back
mod Taking
mod Joining
