-- input of a few lines, by computation
mod Worked
-- what holds of them as of any lines
pub mod Lines
-- where a line leads, and what an encoder of lines makes of it (src/line_encoder.rt)
pub mod Standings
pub mod Sending
-- the envelopes that documents bring (specs/Laws)
pub mod Built
-- what is written of any input, and which input isn't refused (specs/Laws)
pub mod Written
pub mod Fitting
-- where lines lead that come behind others, and what that says of all bytes
pub mod Leading
-- what all lines bring one by one, and what was taken of a source (src/taking.rt)
pub mod Stepping
pub mod TakenSteps
