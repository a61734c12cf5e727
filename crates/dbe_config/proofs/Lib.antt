pub mod Actions
pub mod Bounds
pub mod Few
pub mod Known
pub mod Lists
pub mod Order
pub mod Rings
pub mod Seen
