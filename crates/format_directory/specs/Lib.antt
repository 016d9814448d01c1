pub mod Directory
pub mod DirectoryChecks
pub mod Answers
pub mod DirectoryExamples
