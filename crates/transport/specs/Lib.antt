pub mod Calls
pub mod Ranges
