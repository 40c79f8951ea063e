-- Public contracts cite these: how a reading end's answers are its grammar's (Answers), what is
-- seen of the input and the output (Edges), what was read and reported (Reported), and what follows
-- (Laws); what was read of a stream and which of its events were handled (Followed), also where the
-- reading stops and goes on (Resumed); what has become of the writing about it (Writing), also
-- where it is gathered (Gathering), part by part (Parts, PartsGiven), and which parts are due for
-- events (PartsDue); what was read and written together (Exchanged).
pub mod Answers
pub mod Edges
pub mod Reported
pub mod Laws
pub mod Followed
pub mod Resumed
pub mod Writing
pub mod Gathering
pub mod Parts
pub mod PartsGiven
pub mod PartsDue
pub mod Exchanged
-- Private calls cite these: what a step of the loop brings, what a reporter has put so far, and
-- what a report has put before its last bytes are written.
pub mod Steps
pub mod Report
pub mod LoopParts
-- Worked examples cite this one.
pub mod Toy
