-- what events say, with one more (specs/Events), and what is due before a session begins
pub mod Begun
-- what a carrier has put of events, with one more (specs/Writing), and at the end of its direction
pub mod Putting
pub mod Closing
-- what was read of a side when the loop ends (specs/Beginning)
pub mod Reading
-- and when a direction went on to its end (specs/Pumping)
pub mod Pumped
-- the back's stream doesn't end well without an Ack or a Fault
pub mod Accepting
-- what is known of a relay (specs/Relayed)
pub mod Known
-- and of a session that was opened with the back (specs/Joining)
pub mod Opened
-- connections as a wire hands them out and takes them back, one after the other (specs/Connections)
pub mod Ends
pub mod Connecting
-- the line of one, by what is put of it (specs/Lines)
pub mod Wording
-- what is written for literal streams
mod Worked
