-- Public contracts cite both.
pub mod Owed
pub mod ReceiverState
