pub mod Listed
pub mod Walks
pub mod Sheet
pub mod Cases
