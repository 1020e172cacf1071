-- The definitions that the contracts cite.
pub mod Digits
pub mod Reading
pub mod Writing
