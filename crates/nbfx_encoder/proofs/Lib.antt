-- The tables that a writer carries on, what is spelled of values and items; worked cases.
pub mod Growing
pub mod Saying
pub mod SaidItems
pub mod Payloads
pub mod Writable
pub mod InLists
pub mod Parts
pub mod Records
pub mod InItems
pub mod Openings
pub mod Sizes
pub mod LawFacts
pub mod Leasts
pub mod ReadBack
mod OnLiterals
mod Worked
mod WorkedPlaces
mod WorkedValues
mod WorkedUnfit
mod WorkedEnvelopes
