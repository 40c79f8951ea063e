-- Public contracts cite which elements jobs name (Numbers), and what these are of two lists
-- (Merges). The rule of the channel is for private calls (Jobs).
pub mod Numbers
pub mod Merges
pub mod Jobs
