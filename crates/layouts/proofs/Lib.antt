pub mod Ranges
pub mod Tabled
pub mod Lies
pub mod Limits
