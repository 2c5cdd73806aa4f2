pub mod Draws
pub mod Friction
pub mod Outlets
pub mod Steps
pub mod Totals
