pub mod Compounds
pub mod Extended
pub mod Plain
pub mod Places
pub mod Split
pub mod Steps
pub mod Texts
pub mod Virtuals
