pub mod Header
pub mod Ranges
pub mod Opening
