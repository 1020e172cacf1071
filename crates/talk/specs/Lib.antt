pub mod Cars
pub mod Talk
pub mod Messages
