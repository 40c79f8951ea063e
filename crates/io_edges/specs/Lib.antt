-- cited by public contracts
pub mod Adapters
pub mod Faults
pub mod Files
pub mod Flow
pub mod Gathering
pub mod InMemory
pub mod Puts
pub mod Store
pub mod Plan
pub mod Tcp
pub mod Views
pub mod Wires
