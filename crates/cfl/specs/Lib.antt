pub mod Cfl
pub mod Ranges
