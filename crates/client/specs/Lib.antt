-- Public contracts cite these: what is sent of documents, and what a call leaves of the sink
-- (Sent); what was read, reported and sent by a call, however it ends (Called).
pub mod Sent
pub mod Called
-- of a call by which two lists are sent, that it is the call of a merge of both (Lanes);
pub mod Lanes
-- and of a place that is called: the line of what was sent (Tags), what was read, sent and reported
-- over a connection (Peers), what is left of a wire and of an output (Places), and the status of a
-- run that ends so (Statuses).
pub mod Tags
pub mod Peers
pub mod Places
pub mod Statuses
-- Private calls cite these: how the opening is written (Writing), how a sending half is set (Making)
-- and what a writer of documents has put (LaneWriting), what was put of an event (Calling), what was
-- read and reported of the peer's answers (Answering), what a call did up to the Ack (Beginning), and
-- how the report of a call ends (Sending).
pub mod Writing
pub mod Making
pub mod LaneWriting
pub mod Calling
pub mod Answering
pub mod Beginning
pub mod Sending
