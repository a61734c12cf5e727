pub mod Token
pub mod Text
pub mod Parts
pub mod Ranges
pub mod Deep
