pub mod ItemKeys
pub mod Field
