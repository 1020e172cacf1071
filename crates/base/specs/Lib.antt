pub mod Failures
pub mod Numbers
pub mod Reasons
pub mod Refusals
pub mod Reports
pub mod Sums
