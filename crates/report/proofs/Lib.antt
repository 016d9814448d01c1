pub mod Answers
pub mod Digits
pub mod Laws
pub mod Lines
pub mod Starts
