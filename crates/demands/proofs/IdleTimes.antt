-- Demand 2 b, again: the idle time of a history is the one that our link keeps, and so the link connects exactly as it should.
pub mod LatestTalk
pub mod IdleRules
pub mod IdleLink
pub mod AskedTime
pub mod Examples
