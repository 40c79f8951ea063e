-- cited by public contracts
pub mod Strings
pub mod Marks
-- inside tables
pub mod Pieces
pub mod Order
pub mod Inside
