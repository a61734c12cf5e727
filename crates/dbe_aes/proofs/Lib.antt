pub mod Entries
pub mod Expansion
pub mod Counters
pub mod Rows
pub mod Lanes
