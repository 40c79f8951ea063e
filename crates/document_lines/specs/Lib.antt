-- Cited by whoever reads documents in lines to write them: the grammar (Input), where an encoder of
-- lines is (LineEncoderState) and what a reader has read (DocumentReaderState), why a line is
-- refused (Refused), that it then completes no document (Silence), and what holds by the definitions
-- alone (Laws).
pub mod Input
pub mod LineEncoderState
pub mod DocumentReaderState
pub mod Refused
pub mod Silence
pub mod Laws
-- Cited by whoever reads a list of documents: what bytes are read as (Documents), what a file says
-- (Files), and what was read of a source (Taking).
pub mod Documents
pub mod Files
pub mod Taking
-- Private calls cite these: what lines bring, one by one (Steps), and where a reader of them stands
-- (StepReaderState).
pub mod Steps
pub mod StepReaderState
