pub mod OutletLaws
pub mod ClearingLaws
pub mod LentLaws
