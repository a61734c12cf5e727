pub mod Cutting
pub mod Encoding
pub mod Joining
pub mod Lists
pub mod Named
pub mod Removal
pub mod Values
pub mod Views
