-- The definitions that the contracts cite.
pub mod Lines
pub mod Getting
pub mod Quick
