-- The public contracts cite these, up to Laws and with Units, which DecoderState stands on; Meant,
-- Measuring, Taking and Answers are for private calls.
pub mod Sections
pub mod Faults
pub mod Tables
pub mod Payload
pub mod Values
pub mod Bounds
pub mod DecoderState
pub mod Reasons
pub mod Laws
pub mod Meant
pub mod Measuring
pub mod Units
pub mod Taking
pub mod Answers
