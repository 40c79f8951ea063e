-- Public contracts cite these: which ends of payloads are level (Level), and what a sender has
-- written (Sent).
pub mod Level
pub mod Sent
