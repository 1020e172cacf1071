pub mod Keys
pub mod Editions
