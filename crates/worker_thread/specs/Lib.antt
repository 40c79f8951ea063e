-- public contracts cite what jobs are ended by; the rule of the channel is for private calls
pub mod Jobs
pub mod Crossing
pub mod Sending
