-- Demand 2 e: the other reports.
pub mod DownsExactly
pub mod StartingExactly
pub mod FailsExactly
pub mod EachFormed
pub mod NoneHeld
