-- the file so far, a table's maps, one row; rows of written files
pub mod FileFacts
pub mod MapFacts
pub mod RowFacts
mod Worked
