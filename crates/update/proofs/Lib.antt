pub mod StepLaws
pub mod LoadedLaws
