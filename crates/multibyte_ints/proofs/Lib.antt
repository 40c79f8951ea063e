-- the definitions on literals
mod Worked
-- integers (specs/Integer): values, what stands at a front, byte by byte, the laws, the shortest
-- spelling; how they are read (specs/Reader, AtFront) and written
pub mod Values
pub mod IntegerFacts
pub mod IntegerBytes
pub mod IntegerLaws
pub mod ShortestLaws
pub mod ReaderSteps
pub mod FrontSteps
pub mod WritingSteps
-- strings (specs/Text): the same, what makes one wrong, how they are read (specs/TextReader)
pub mod TextFacts
pub mod TextBytes
pub mod TextLaws
pub mod TextCauses
pub mod TextSteps
