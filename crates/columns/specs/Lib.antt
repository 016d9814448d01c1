pub mod InRecord
pub mod Pass
pub mod WriteSteps
