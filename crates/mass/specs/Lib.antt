pub mod Transport
pub mod Ranges
