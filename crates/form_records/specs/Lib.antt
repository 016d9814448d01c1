pub mod LaidOut
pub mod Sure
