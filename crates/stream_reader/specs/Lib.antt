-- cited by public contracts
pub mod Stream
pub mod Sides
pub mod Judging
pub mod Sessions
pub mod Scripts
pub mod Reasons
pub mod Laws
pub mod Saying
pub mod StreamReaderState
pub mod Calls
-- cited by a reader's own state and by private calls
pub mod Stepping
pub mod Runs
