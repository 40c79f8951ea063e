-- the grammar of lines: what a line is (LineFacts), what a piece of one brings (LineSteps), bytes
-- that are cut at their line feeds (Cutting), how far lines lead (Walking)
pub mod LineFacts
pub mod LineSteps
pub mod Cutting
pub mod Walking
-- a reader: where a search finds a line feed (Finding), what bytes of a line are answered with
-- (StreamFacts), and a piece (Feeding)
pub mod Finding
pub mod StreamFacts
pub mod Feeding
