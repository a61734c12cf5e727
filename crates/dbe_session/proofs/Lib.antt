pub mod Counts
pub mod Distinct
pub mod Computed
pub mod Replies
pub mod Puts
pub mod Maps
