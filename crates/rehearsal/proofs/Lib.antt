-- a history: the forms of its lines (FormFacts), and what is written of it (Playing)
pub mod FormFacts
pub mod Playing
-- a line that is read: its words (Words), and how a player answers it (Happening)
pub mod Words
pub mod Happening
