-- where items lead one by one (Positions), what that has to do with documents (Walks), how deep
-- they are (Heights)
pub mod Positions
pub mod LastTexts
pub mod Walks
pub mod Heights
-- literal items and values: what unfolds there, and worked cases
pub mod OnLiterals
pub mod Worked
