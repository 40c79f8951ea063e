-- what a receiver owes (specs/Owed)
pub mod Owing
