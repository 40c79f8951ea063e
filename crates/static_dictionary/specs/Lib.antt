-- cited by public contracts
pub mod Rows
pub mod Faults
-- inside tables
pub mod Names
pub mod Inside
