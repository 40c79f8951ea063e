-- Worked cases, by computation.
pub mod OnLiterals
mod WorkedTexts
mod WorkedRecords
mod WorkedLengths
mod WorkedRefusals
mod WorkedAsked
mod WorkedWriting
-- What is read rests on its own bytes.
pub mod ShapeFronts
-- Reading and the relation are one, from type bytes up to records; records are of valid nodes.
pub mod PartBytes
pub mod ShapeBytes
pub mod KindBytes
pub mod ScalarParts
pub mod ScalarBytes
pub mod ValueBytes
pub mod NameBytes
pub mod AttributeBytes
pub mod ArrayBytes
pub mod NodeBytes
pub mod ValidFacts
-- What the functions of reading do: parts, lists, attributes of an array, and what they say.
pub mod CursorFacts
pub mod PartFacts
pub mod BegunFacts
pub mod CharactersFacts
pub mod ManyFacts
pub mod ListFacts
pub mod PartsFacts
pub mod ResumeFacts
pub mod ReaderFacts
pub mod KeptFacts
pub mod UnitFacts
pub mod JudgedFacts
pub mod CellFacts
pub mod AnswerFacts
-- What is written is a record of the node.
pub mod NumberFacts
pub mod PutFacts
pub mod ChosenScalars
pub mod ChosenNodes
pub mod ChosenShort
pub mod ValueLengths
pub mod ChosenLengths
-- What a node means.
pub mod Missing
pub mod MeaningFacts
pub mod StayFacts
pub mod WritableFacts
-- Records and strings one behind the other.
pub mod PayloadFacts
-- What is wrong with bytes.
pub mod CauseFacts
pub mod PartCauses
pub mod ContentCauses
pub mod FaultCauses
