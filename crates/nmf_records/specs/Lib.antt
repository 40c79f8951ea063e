-- cited by public contracts
pub mod Records
pub mod RecordFronts
pub mod Reader
pub mod Script
pub mod Laws
pub mod Writing
-- cited by private calls
pub mod Steps
pub mod Advancing
