pub mod Records
pub mod StageOne
pub mod Buffers
