pub mod StateTests
pub mod One
