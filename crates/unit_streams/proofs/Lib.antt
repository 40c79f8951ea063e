-- the small grammar, by computation
mod Worked
-- what stands at a front (specs/Front, Parts): readings that go byte by byte, what follows for
-- them, the first bytes of a piece; things of parts, with a size, behind other bytes, as what bytes
-- there are, and any number of them
pub mod Peeling
pub mod Fronts
pub mod Taken
pub mod Parts
pub mod Within
pub mod Behind
pub mod Spelled
pub mod Repeated
-- a grammar's streams (specs/Grammar, Judging, Going): where one stands, answers, cuts, histories,
-- offences, one unit at a time; what refuses, what ends, and what may still come to its end
pub mod Standing
pub mod Answers
pub mod Cuts
pub mod Histories
pub mod Offences
pub mod Passing
pub mod Refusals
pub mod Ends
pub mod Pending
-- whole units (specs/Units): what they bring, what decides nothing, units by their bytes, and what
-- is accepted
pub mod Units
pub mod Quiet
pub mod Along
pub mod Accepted
-- what tellers tell (specs/Tellers): of events and histories, of pieces, ends and prefixes;
-- and of a piece that is used up event by event
pub mod Telling
pub mod Pieces
