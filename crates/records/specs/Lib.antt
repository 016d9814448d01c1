pub mod Entry
pub mod Outline
pub mod Steps
