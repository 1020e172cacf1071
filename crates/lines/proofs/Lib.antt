-- The laws and theorems of the crate.
pub mod Laws
pub mod Parts
pub mod Ways
pub mod One
pub mod Forms
