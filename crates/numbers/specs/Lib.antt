pub mod Index
pub mod Deal
pub mod Search
pub mod Root
pub mod Shares
pub mod Signed
pub mod Table
pub mod Quotient
