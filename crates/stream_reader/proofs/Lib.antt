-- streams by the definitions, by computation: sessions, and one for each refusal
pub mod OnLiterals
mod WorkedSides
mod WorkedStreams
mod WorkedRefusals
mod WorkedInPayloads
-- the grammar (specs/Stream): units, which units come and which records are due, ends
pub mod Grammar
pub mod Coming
pub mod DueRecords
pub mod Ending
pub mod Closing
pub mod LoneAck
-- payloads: where bytes of one lead, what holds of each situation, what bytes of one bring to a
-- stream
pub mod Outcomes
pub mod Prefixes
pub mod Situations
pub mod PayloadBytes
-- which bytes give each reason (specs/Reasons), of a prefix and of a whole stream
pub mod Said
pub mod Reasons
pub mod PayloadReasons
pub mod PayloadTrace
pub mod RightRecords
pub mod PayloadRefusals
pub mod ReasonsOfStreams
-- the size of a document's payload
pub mod PayloadSizes
-- sessions (specs/Sessions, Scripts): as scripts; from their parts to units, and back
pub mod ScriptParts
pub mod FromScript
pub mod ToScript
pub mod Scripts
pub mod Envelopes
pub mod FromSession
pub mod SessionEnds
pub mod Left
pub mod Accepted
pub mod Closed
-- a reader (specs/StreamReaderState, Stepping): what it stands for, payloads (what it does behind
-- bytes of one, bytes of one), records (what it does behind one, texts, bytes of one), pieces
pub mod ReaderFacts
pub mod PayloadSteps
pub mod FailedFeeds
pub mod PayloadFeeds
-- and short chunks at once
pub mod RunFacts
pub mod ChunkBytes
pub mod RunBytes
pub mod RunFeeds
pub mod Texts
pub mod MadePayloads
pub mod Behind
pub mod RecordFacts
pub mod RecordSteps
pub mod FeedSteps
-- for a loop over pieces
pub mod Readings
-- a machine that is a reader (specs/Calls)
pub mod EndTold
