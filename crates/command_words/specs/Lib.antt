-- cited by public contracts
pub mod Options
pub mod Commands
pub mod Values
pub mod Tasks
pub mod Requests
pub mod Asking
pub mod Laws
-- cited by private calls
pub mod WordAnswers
