pub mod Blocks
pub mod Hash
pub mod Tables
pub mod Gcm
pub use Rattle.dbe_aes.specs.Cipher
pub use Rattle.dbe_aes.specs.Counters
