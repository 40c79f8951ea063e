-- an opening (specs/Opening): by computation, and as a preamble
mod Worked
pub mod Openings
-- an initiator
pub mod FaultTexts
pub mod Going
