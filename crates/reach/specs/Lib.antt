pub mod Limits
pub mod Reach
pub mod Parts
pub mod Refusals
pub mod Grounds
pub mod Ranges
pub mod Outcome
pub mod Balance
