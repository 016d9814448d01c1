pub mod Neighbours
pub mod Doubts
pub mod Rules
pub mod AtOnce
