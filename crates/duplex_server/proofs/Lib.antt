-- what is owed for literal streams, and the definitions on connections at small cases, by
-- computation
mod Worked
pub mod WorkedConnections
-- events as requests (src/requests.rt)
pub mod Saying
-- an initiator's stream has no Preamble Ack (src/requests.rt)
pub mod NoAcks
-- the envelope of an answer (src/spelling.rt)
pub mod Spelled
-- where a writer stands behind what it spelled (src/reply_writer.rt)
pub mod Replies
-- which parts are due for requests, what is handled with one request more (src/replier.rt), and
-- what
-- was written of requests by what was written of parts
pub mod Due
pub mod Handled
-- what is known of two threads that serve a connection (src/beside.rt): by the jobs that were asked
-- for (src/asking.rt) and done (src/reply_thread.rt)
pub mod Crossed
pub mod AskedFor
pub mod Done
-- that a stream can be followed, and what is known when it is over (src/serving.rt)
pub mod Streams
pub mod Served
-- and what stands behind it then
pub mod Behind
-- that what is written is what is owed, or first bytes of that
pub mod Judged
-- the same where the first bytes were carried from the session before
pub mod Keeping
-- what is known of an input and an output where its session was answered, and where there was no
-- memory to begin
pub mod Outcomes
-- which answers are written of a connection
pub mod Answered
-- what is known of a connection
pub mod Meeting
-- one more connection behind others
pub mod Turns
-- the line of a connection, by what is put of it
pub mod Wording
-- the lines of connections
pub mod Reporting
-- why a server stops
pub mod Stops
