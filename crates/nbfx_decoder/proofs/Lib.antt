-- Worked payloads, by computation.
pub mod OnLiterals
mod WorkedPayloads
mod WorkedRefusals
-- Readable: the grammar's units are known by their own bytes. MeaningFacts: what nodes mean, found
-- one after the other (meaning.rt). Places: where nodes stand, and where their items lead.
pub mod Readable
pub mod MeaningFacts
pub mod MeasureFacts
pub mod Places
-- what the functions of strings.rt, units.rt and decoder.rt answer
pub mod Waits
pub mod Keeping
pub mod StringSteps
pub mod UnitSteps
pub mod Listing
pub mod Singles
pub mod Saying
pub mod TakeSteps
pub mod AllSteps
pub mod StandsFacts
pub mod FeedSteps
pub mod FinishSteps
pub mod ShownFacts
-- what those know that call them
pub mod Feeding
-- for the laws. TableBytes: a string that is read of a table is what bytes there are. Counts: how
-- many items and values a node means. UnitCases: which unit was read. Sound: what bounds
-- situations.
pub mod TableBytes
pub mod Counts
pub mod UnitCases
pub mod Sound
-- the bytes without an offence are the payloads
pub mod AcceptedUnits
pub mod PayloadPasses
pub mod PayloadLaws
-- which bytes give each reason: of a table's strings, of nodes
pub mod TableReasons
pub mod NodeReasons
pub mod PayloadReasons
pub mod PayloadAnswers
