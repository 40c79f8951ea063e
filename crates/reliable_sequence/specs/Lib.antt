-- cited by public contracts
pub mod Slots
pub mod Ranges
pub mod Received
pub mod Sent
pub mod Names
pub mod Made
pub mod Numbers
pub mod Blocks
pub mod Reading
pub mod Ends
pub mod Rehearsal
pub mod DocumentLaws
pub mod Laws
pub mod Acknowledged
-- private calls cite these
pub mod Receipts
pub mod PlainWorld
pub mod Soundness
pub mod Exchange
