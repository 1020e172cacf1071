-- The definition that the promises cite.
pub mod Statuses
