pub mod Decimal
pub mod Numeral
pub mod Reading
pub mod NormalText
pub mod Shift
pub mod Places
