pub mod Doubts
pub mod Columns
pub mod Reader
pub mod Records
