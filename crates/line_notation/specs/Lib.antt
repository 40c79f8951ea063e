-- cited by public contracts: the words of a line (Words, Quoted, Numerals, Scalars, Values), its
-- form (Forms), the lines of documents (Lines), what a form is refused for and says (Judging),
-- where a reader stands (LineReaderState) and what it says of that (Between), what is put (Puts),
-- what stands by itself in other lines (Arguments), and the laws (Laws, Refusals)
pub mod Arguments
pub mod Between
pub mod Forms
pub mod Judging
pub mod Laws
pub mod LineReaderState
pub mod Lines
pub mod Numerals
pub mod Options
pub mod Puts
pub mod Quoted
pub mod Refusals
pub mod Scalars
pub mod Values
pub mod Words
-- cited by private calls: what a step of reading gives (Steps), the same read and judged at once
-- (Parts, BehindKeywords), and where a line is placed (Placing)
pub mod BehindKeywords
pub mod Parts
pub mod Placing
pub mod Steps
