-- Demand 2 f: the reports of one event, together.
pub mod InOrder
pub mod FailedNames
pub mod ThreeAtMost
