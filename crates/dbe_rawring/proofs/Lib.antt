pub mod Wraps
pub mod Rings
