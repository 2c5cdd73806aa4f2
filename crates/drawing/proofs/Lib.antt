pub mod DealingLaws
pub mod DrawingLaws
