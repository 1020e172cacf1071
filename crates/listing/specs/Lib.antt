-- The definitions that the contracts cite.
pub mod Listing
pub mod InputLines
pub mod Parts
pub mod Turns
