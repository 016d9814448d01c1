pub mod Records
pub mod Writing
pub mod Answers
