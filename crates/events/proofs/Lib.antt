pub mod One
pub mod Letters
