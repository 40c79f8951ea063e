pub mod SlotFacts
pub mod RangeFacts
pub mod SentFacts
pub mod PlaceFacts
pub mod NumberFacts
pub mod AckFacts
pub mod CountFacts
pub mod Acknowledged
pub mod WorldFacts
pub mod RangeLaws
pub mod SentContents
pub mod EventFacts
pub mod MadeFacts
pub mod ReadNumbers
pub mod ReadData
pub mod ReadRanges
pub mod RehearsalFacts
pub mod RehearsalLaws
pub mod ExchangeFacts
pub mod ReceiptLists
mod Worked
mod WorkedDocuments
