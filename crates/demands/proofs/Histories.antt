-- What holds after any events from a fresh link with zero counts, for all three demands: clock, mark and numbers, bytes held and named, counts, and what may be left out.
pub mod Holding
pub mod Tiling
pub mod Counting
pub mod Invariant
pub mod NamedInTurn
pub mod Basics
pub mod TakenOnly
pub mod BytesHeard
pub mod BytesAsEvents
pub mod LentCounts
pub mod ReportsMade
pub mod CarsFit
