-- cited by public contracts
pub mod Least
