-- Demand 1: every event, frame and timing code gets its number.
pub mod Numbering
pub mod Refusing
pub mod Answering
