pub mod Reply
pub mod Steps
pub mod Maps
pub mod Faults
