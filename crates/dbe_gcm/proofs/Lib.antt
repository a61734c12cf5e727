pub mod Xor
pub mod Products
pub mod Hashes
pub mod Tags
pub mod Nibbles
mod SecondBlock
pub mod Ranges
