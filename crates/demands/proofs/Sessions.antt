-- Demand 2 c: sessions, messages and the frames that report 1 names.
pub mod MessageData
pub mod CarMessages
pub mod AfterFirstByte
pub mod SessionLasts
pub mod SessionEnds
pub mod SessionByte
pub mod SessionEvent
pub mod SessionExactly
pub mod FramesRead
pub mod FramesExactly
pub mod OpeningByte
pub mod OpensFirst
