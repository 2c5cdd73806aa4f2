pub mod HeaderLaws
pub mod OpeningLaws
pub mod LoadedLaws
