pub mod Result
pub mod Cases
pub mod Due
pub mod Progress
pub mod Steps
