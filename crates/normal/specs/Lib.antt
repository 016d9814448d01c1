pub mod Rewriting
pub mod Due
