pub mod Canon
pub mod Path
pub mod Reading
