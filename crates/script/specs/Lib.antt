pub mod Script
pub mod Every
