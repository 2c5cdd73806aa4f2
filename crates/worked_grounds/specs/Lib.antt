pub mod Cfl
pub mod Grounds
