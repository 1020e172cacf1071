pub mod P2Table
pub mod Limits
pub mod RoundTrip
pub mod Least
pub mod Sets
pub mod Answers
pub mod One
