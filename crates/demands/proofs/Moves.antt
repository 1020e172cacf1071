-- General facts about moves and runs: what one event does to any link, and reports in lists.
pub mod ReportsInList
pub mod StillOpen
pub mod Entering
pub mod Completing
pub mod Unconnected
pub mod TimePasses
pub mod Causes
pub mod ByteReports
