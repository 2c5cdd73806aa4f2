pub mod Play
pub mod Ranges
