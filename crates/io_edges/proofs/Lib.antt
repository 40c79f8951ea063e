-- puts one behind the other, what a put has written, a place in bytes, a map of files; the
-- definitions at small cases
pub mod Putting
pub mod Pieces
pub mod Tapes
pub mod Stores
pub mod Worked
