pub mod LineEnds
pub mod LineEndsBytes
pub mod LineEndsRefused
pub mod Claims
