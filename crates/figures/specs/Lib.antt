pub mod Figures
pub mod Friction
pub mod TwoCells
