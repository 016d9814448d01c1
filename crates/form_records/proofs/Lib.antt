pub mod Counting
pub mod Sound
