-- cited by public contracts
pub mod Services
pub mod Actions
pub mod Refusals
pub mod Answers
pub mod Laws
-- for private calls
pub mod Planning
pub mod Inside
