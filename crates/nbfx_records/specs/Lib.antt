-- What public contracts cite, and what stands under it: how records are read,
pub mod Kinds
pub mod Shapes
pub mod Contents
pub mod RecordAtFront
-- what they are,
pub mod Records
pub mod Places
pub mod Valid
-- how they are written,
pub mod TypeBytes
pub mod Choices
pub mod Chosen
pub mod Putting
-- what they mean, and what is wrong with bytes that are none;
pub mod Meaning
pub mod Causes
pub mod Asked
-- which bytes are a payload of them;
pub mod Payloads
-- what calls answer, and laws.
pub mod Answers
pub mod NodeReaderState
pub mod Resuming
pub mod Laws
pub mod WritingLaws
-- What is told of the parts of a record, and of what is made of them.
pub mod Cursor
pub mod Beginning
pub mod Views
pub mod Judged
