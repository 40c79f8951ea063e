-- both ends of payloads, when they are made and with one document more (src/carrying.rt)
pub mod BothEnds
-- the answer to bytes of which only the last unit completes an event (any grammar)
pub mod Answering
-- what is sent is read: as envelopes of the documents, and piece by piece
pub mod Sent
pub mod Steps
