pub mod Loops
pub mod Tables
pub mod Laws
pub mod Sure
