-- cited by public contracts
pub mod Integer
pub mod Text
pub mod Laws
pub mod Reader
pub mod AtFront
pub mod TextReader
-- cited by private calls, and inside readers
pub mod IntState
pub mod TextPart
