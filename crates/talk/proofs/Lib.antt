pub mod One
pub mod Frames
pub mod Asking
pub mod Allowed
