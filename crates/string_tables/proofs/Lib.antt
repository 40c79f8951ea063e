-- Facts about the words of specs/. LeastFacts is for any look-up; then come one file for each half
-- of a table, EntryFacts for entries that are added to the static strings, and TableFacts and
-- ChosenFacts for both halves.
pub mod LeastFacts
pub mod StaticFacts
pub mod EntryFacts
pub mod SessionFacts
pub mod TableFacts
pub mod ChosenFacts
mod Worked
