pub mod Hmac
pub mod Hkdf
pub mod Keyed
pub use Rattle.sha2.specs.Sha512
