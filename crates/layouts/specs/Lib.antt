pub mod Tables
pub mod Lies
