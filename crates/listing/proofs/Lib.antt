-- The laws and theorems of the crate.
pub mod Laws
pub mod Cuts
pub mod Sizes
pub mod One
pub mod Whole
pub mod ByLines
