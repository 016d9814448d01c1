pub mod Doubt
pub mod Letters
pub mod Told
