-- cited by public contracts
pub mod Placing
pub mod Spelling
pub mod Refusals
pub mod EncoderState
pub mod Envelopes
pub mod ReadBack
pub mod Laws
pub mod Sending
-- for the proof: the parts of a writer
pub mod Sound
pub mod Inside
