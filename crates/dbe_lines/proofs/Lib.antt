pub mod Known
pub mod Asked
pub mod Floats
pub mod Named
pub mod Keys
pub mod Empty
pub mod Refusals
pub mod Plain
