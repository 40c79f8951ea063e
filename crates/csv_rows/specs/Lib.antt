-- cited by public contracts
pub mod Rows
-- for the proof: what a reader of `csv` has left
pub mod Inside
