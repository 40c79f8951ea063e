-- Public contracts cite both.
pub mod InitiatorState
pub mod Opening
