pub mod Faults
pub mod Tables
