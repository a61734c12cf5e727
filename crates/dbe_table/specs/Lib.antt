pub use Rattle.dbe_io.specs.Causes
pub use Rattle.dbe_io.specs.Memory
pub use Rattle.dbe_cond.specs.Wants
pub use Rattle.dbe_values.specs.Keys
pub use Rattle.dbe_values.specs.KeyValues
pub mod Faults
pub mod Rows
pub mod InMemory
