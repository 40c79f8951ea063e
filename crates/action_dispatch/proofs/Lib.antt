-- the texts of a file, one row more; what may stand in a Body
pub mod TextFacts
pub mod RowFacts
pub mod Replies
pub mod AnswerFacts
pub mod AskedFacts
pub mod MeasuredFacts
pub mod TextSizes
-- worked cases
mod Requests
pub mod Worked
mod WorkedVersions
mod WorkedFiles
