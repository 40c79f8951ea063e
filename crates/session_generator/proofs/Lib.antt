-- documents: each is one, is small, and fits; worked documents and sessions
pub mod DocumentFacts
pub mod Fitting
mod Worked
mod WorkedSessions
-- sessions of them: as far as one has come, what is read of it, how it is carried on and ends, and
-- which documents are to come
pub mod Whole
pub mod Answered
pub mod Carrying
pub mod Looping
pub mod Sending
pub mod Closing
-- the line of a session, by what both ends measure; and what is written of it
pub mod Measuring
