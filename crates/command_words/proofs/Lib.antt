-- the options that are given; what words look like, and the options that they spell; what clap
-- makes of options and words; numbers; what values write and ask for; the words of a request
pub mod OptionFacts
pub mod WordFacts
pub mod SpellFacts
pub mod RuleFacts
pub mod WalkFacts
pub mod StepFacts
pub mod ReadingFacts
pub mod ClapFacts
pub mod NumberFacts
pub mod ValueFacts
pub mod AskingFacts
pub mod RequestFacts
pub mod ParsedFacts
mod Worked
