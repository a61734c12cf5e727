pub mod Joins
pub mod Opened
pub mod Sealed
