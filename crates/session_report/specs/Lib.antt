-- cited by public contracts
pub mod Report
pub mod Saying
pub mod Laws
