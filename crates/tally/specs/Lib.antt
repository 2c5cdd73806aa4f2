pub mod Call
pub mod Tally
pub mod Holds
