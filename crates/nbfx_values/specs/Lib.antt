-- cited by public contracts
pub mod Characters
pub mod Documents
pub mod Items
pub mod Limits
pub mod Measures
pub mod Positions
pub mod QuotasOf
pub mod Refusals
pub mod Scalars
pub mod Session
-- cited by private calls, and inside documents and their builders
pub mod Measured
pub mod Texts
