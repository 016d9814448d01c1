pub mod Signed
pub mod Joining
pub mod Splitting
