pub mod Edk
pub mod Wrap
pub mod Ring
