pub mod Friction
pub mod Ranges
