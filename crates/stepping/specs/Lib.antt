pub mod StepCall
pub mod Ranges
