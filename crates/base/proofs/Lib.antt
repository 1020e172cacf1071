pub mod Tests
pub mod One
pub mod Sums
pub mod Refusals
pub mod Reasons
pub mod Failures
