pub mod LineEnds
pub mod LineEndsChecks
pub mod LineEndsExamples
