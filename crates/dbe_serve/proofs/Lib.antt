pub mod ReadSoFar
pub mod Halted
pub mod Served
pub mod Headline
pub mod Taken
pub mod ArgumentsRead
pub mod Begun
pub mod Completing
