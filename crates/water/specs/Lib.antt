pub mod Sides
pub mod Water
pub mod Fits
pub mod Ranges
