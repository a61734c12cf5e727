pub mod Pieces
pub mod Blocks
pub mod Fronts
pub mod Steps
pub mod LineLaws
pub mod Told
