pub mod CallsLaws
pub mod LoadedLaws
