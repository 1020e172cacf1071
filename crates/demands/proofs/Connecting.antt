-- Demand 2 b: the link connects exactly when every byte, complement and window of an initialization holds.
pub mod Running
pub mod Waking
pub mod Staged
pub mod Judging
pub mod SlowStart
pub mod FastStart
pub mod ConnectsExactly
pub mod BecomesConnected
pub mod ConnectedReport
pub mod KeyBytes
pub mod Example
