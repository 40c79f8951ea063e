-- Public contracts cite these: what is owed for an initiator's stream (ServerStream), by its events
-- as a server sees them (Requests); what serving a connection leaves (Serving) and what is carried
-- from one session to the next (Carrying), and answering a session of an input (Replaying); what a
-- file of actions gives (Responding); the lines of connections (Lines), and what was read and
-- written where they are served one after the other (Served).
pub mod Requests
pub mod ServerStream
pub mod Serving
pub mod Carrying
pub mod Replaying
pub mod Responding
pub mod Lines
pub mod Served
-- Private calls cite these: how an answer is spelled, what is due for a writer's jobs and which
-- requests ask for them (Jobs), what a writer has written and a replier has handled (Replying),
-- what a
-- writer on another thread was asked for (Asking) and did (TwoThreads), and which connections have
-- been served so far (Along).
pub mod Spelling
pub mod Jobs
pub mod Replying
pub mod Asking
pub mod TwoThreads
pub mod Along
