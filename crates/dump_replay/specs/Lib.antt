-- cited by public contracts
pub mod Outside
pub mod Statics
pub mod Running
pub mod Rehearsing
pub mod Reporting
pub mod Building
pub mod Answering
pub mod Serving
pub mod Relaying
pub mod Pooling
pub mod Calling
pub mod Generating
pub mod Noting
pub mod Working
pub mod Laws
pub mod Complete
pub mod Order
-- cited by private calls
pub mod Statuses
pub mod Responding
