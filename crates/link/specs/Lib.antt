pub mod Answers
pub mod Handling
pub mod Stepping
pub mod Telling
pub mod Quick
pub mod Running
