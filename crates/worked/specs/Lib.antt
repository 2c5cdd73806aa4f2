pub mod Flux
pub mod Shares
pub mod Interface
pub mod Sheets
