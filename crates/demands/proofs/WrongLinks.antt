-- The wrong programs: what antt computes of them, and the demand that shuts each out.
pub mod Computed
pub mod ShutOut
pub mod OutsidePasses
