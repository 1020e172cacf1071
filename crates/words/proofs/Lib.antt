-- The laws and theorems of the crate.
pub mod Within
pub mod Spelling
pub mod Written
pub mod Numbers
pub mod Pairs
pub mod Runs
pub mod Back
pub mod Exactly
pub mod Fits
pub mod One
