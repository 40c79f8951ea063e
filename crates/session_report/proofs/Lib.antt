-- what a reading end says, and what a reporter writes of it (specs/Saying)
pub mod Saying
-- the streams that are read, and how their sessions end (specs/Report, Laws)
pub mod Streams
pub mod Sessions
-- worked reports
mod Worked
