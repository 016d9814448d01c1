pub mod Layouts
pub mod Lies
pub mod DataColumns
pub mod DueSteps
pub mod Buffers
pub mod Files
