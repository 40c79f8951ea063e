-- the fields that hold the strings of a table
pub mod TableFacts
-- what a call ensures
pub mod ResultFacts
-- texts in one list of bytes
pub mod PieceFacts
-- the order of positions
pub mod CountFacts
pub mod PairFacts
pub mod OrderFacts
pub mod CutFacts
pub mod RunFacts
