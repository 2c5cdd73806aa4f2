pub mod Limits
pub mod Wave
pub mod Velocity
pub mod Crossing
pub mod Interface
pub mod Ranges
