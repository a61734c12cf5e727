pub mod Bytes
pub mod States
pub mod Words
pub mod Cipher
pub mod Columns
pub mod Counters
