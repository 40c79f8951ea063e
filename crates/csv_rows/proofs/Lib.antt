-- the records of a text, of which a reader has some left; the two fields of a row
pub mod RecordFacts
pub mod ReaderFacts
pub mod FieldFacts
-- literal files
pub mod OnLiterals
mod Worked
