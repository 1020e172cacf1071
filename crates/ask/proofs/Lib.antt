-- The laws of a frame that is built into a lent buffer.
pub mod Built
