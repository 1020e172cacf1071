pub mod Answers
pub mod Layout
pub mod Build
pub mod Shortest
pub mod Read
pub mod Announced
pub mod ReadsBack
