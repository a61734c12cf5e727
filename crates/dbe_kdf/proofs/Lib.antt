pub mod Maps
pub mod Outputs
pub mod Blocks
pub mod Filling
pub mod NoSalt
