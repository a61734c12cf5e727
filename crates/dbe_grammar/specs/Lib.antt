pub mod Form
pub mod Grammar
pub mod Reading
pub mod Parts
pub mod Printed
pub mod Moved
pub mod Leaves
