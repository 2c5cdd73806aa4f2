pub mod Functions
pub mod Returns
pub mod Says
