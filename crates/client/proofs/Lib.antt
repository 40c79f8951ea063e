-- what is sent of literal documents and reported of literal answers
mod Worked
-- what is written of the opening (src/sending.rt)
pub mod Opening
-- what is known of events when one more comes, and what was reported (src/answers.rt)
pub mod Handling
-- what is known when the stream is over (src/calling.rt)
pub mod Ended
-- how many bytes of what is due are written, where the peer's bytes are known
pub mod Amounts
pub mod Judged
-- what is written of a report and of the line behind it, and of the output beneath one that gathers
-- (src/peers.rt)
pub mod Reporting
pub mod Assembling
pub mod Gathered
-- what a connection leaves of a wire (src/places.rt)
pub mod Meeting
-- envelopes (src/lane_writer.rt, owned.rt): as parts, with one more, and when no more comes
pub mod Enveloped
pub mod LaneWriting
pub mod LaneSent
pub mod LaneDone
-- how the peer's answers are read (src/answers.rt), a call (src/calling.rt, lanes.rt), and how many
-- documents a merge has
pub mod Answered
pub mod LaneCalled
pub mod Begun
pub mod Merged
