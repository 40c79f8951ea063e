-- Public contracts cite all of these: the laws here, and those of the crates above.
pub mod Front
pub mod Parts
pub mod Grammar
pub mod Judging
pub mod Going
pub mod Units
pub mod Refusals
pub mod Laws
pub mod Tellers
